-- Lists as initialisers of static arrays: each element is set before any function is entered, and what is left out is zero (8.4, 8.4.1).
use Rattle.std.proofs.Common.{◌≡◌, ℕ, List, [], ◌∷◌, refl}
use Rattle.std.specs.Prelude.{pos, codes, true}
use Rattle.std.specs.List.{list_all}
use Rattle.cf_base.specs.declared.kind.Kind.TheVariants.{Char}
use Rattle.cf_base.specs.Event.{Ended, Undefined}
use Rattle.cf_core.specs.Types.{Name, SourceType, integer, pointer, array, const}
use Rattle.cf_core.specs.Core.{Core, Static, CoreFile, absent, static_object, function, text, convert, address, read, decay, index, pointer_call, full, store, list, string, zeros}
use Rattle.cf_core.specs.Calls.{Program}
use Rattle.cf_core.specs.Joined.{program_of}
use Rattle.cf_core.proofs.Sample.{int, function_type, function_of, listed, in_block, main_of, static_of, returns, num, add}
use Rattle.cf_sequence.specs.Built.{is_built_file}
use Rattle.cf_sequence.proofs.Sample.{Shows}

abbrev set_by : Name → SourceType → Core → Static
set_by name t e = record (static_of name t) { start = e }

abbrev file_of : List Static → List Core → CoreFile
file_of xs ss = record { classes = []; functions = function_of (codes "f__Fv") [] int (in_block (returns (num 7) ∷ [])) ∷ main_of ss ∷ []; statics = xs }

abbrev one_file : List Static → List Core → Program
one_file xs ss = program_of (file_of xs ss ∷ [])

-- the element of a static array of this type
abbrev cell : Name → SourceType → ℕ → Core
cell name t i = index (decay (static_object name t)) (num i)

abbrev char : SourceType
char = integer Char

abbrev pair : SourceType
pair = array int 2

-- int a[4]={1,2};int main(){a[1]=5;return a[0]+a[1]+a[3];}: what is left out is 0, and the elements may be changed
abbrev a : SourceType
a = array int 4

abbrev numbers : List Static
numbers = set_by (codes "a") a (list (listed (num 1 ∷ num 2 ∷ [])) zeros) ∷ []

abbrev changed : List Core
changed = full (store (cell (codes "a") a 1) (num 5)) ∷ returns (add (add (read (cell (codes "a") a 0)) (read (cell (codes "a") a 1))) (read (cell (codes "a") a 3))) ∷ []

elements_are_set : Shows (one_file numbers changed) [] 1 (record { end = Ended (pos 6); out = [] })
elements_are_set = record { core = refl; plain = refl }

-- int m[2][2]={{1,2},{3}};int main(){return m[0][1]+m[1][0]+m[1][1];}: lists in lists
abbrev m : SourceType
m = array pair 2

abbrev nested : List Static
nested = set_by (codes "m") m (list (listed (list (listed (num 1 ∷ num 2 ∷ [])) zeros ∷ list (listed (num 3 ∷ [])) zeros ∷ [])) zeros) ∷ []

abbrev of_rows : List Core
of_rows = returns (add (add (at 0 1) (at 1 0)) (at 1 1)) ∷ []
  where
    at : ℕ → ℕ → Core
    at i j = read (index (decay (cell (codes "m") m i)) (num j))

lists_in_lists : Shows (one_file nested of_rows) [] 1 (record { end = Ended (pos 5); out = [] })
lists_in_lists = record { core = refl; plain = refl }

-- const char t[2][3]={"xy","z"};const char*const p[2]={"ab",&t[0][1]};int main(){return t[1][0]+p[0][1]+*p[1]-..}: characters, literals and addresses
abbrev t : SourceType
t = array (array (const char) 3) 2

abbrev p : SourceType
p = array (const (pointer (const char))) 2

abbrev texts : List Static
texts = set_by (codes "t") t (list (listed (string (codes "xy") ∷ string (codes "z") ∷ [])) zeros)
    ∷ set_by (codes "p") p (list (listed (decay (text 0 (97 ∷ 98 ∷ 0 ∷ [])) ∷ address (index (decay (cell (codes "t") t 0)) (num 1)) ∷ [])) zeros) ∷ []

abbrev of_texts : List Core
of_texts = returns (add (wide (index (decay (cell (codes "t") t 1)) (num 0))) (add (wide (index (read (cell (codes "p") p 0)) (num 1))) (wide (index (read (cell (codes "p") p 1)) (num 0))))) ∷ []
  where
    wide : Core → Core
    wide e = convert int (read e)

texts_and_addresses : Shows (one_file texts of_texts) [] 1 (record { end = Ended (pos 341); out = [] })
texts_and_addresses = record { core = refl; plain = refl }

-- int(*g[2])()={f};int main(){return g[0]();}: functions, and a null pointer that is called
abbrev g : SourceType
g = array (pointer (function_type [] int)) 2

abbrev functions : List Static
functions = set_by (codes "g") g (list (listed (decay (function (codes "f__Fv") (function_type [] int)) ∷ [])) zeros) ∷ []

abbrev calling : ℕ → List Core
calling i = returns (pointer_call absent (read (cell (codes "g") g i)) (function_type [] int) (listed [])) ∷ []

function_is_called : Shows (one_file functions (calling 0)) [] 2 (record { end = Ended (pos 7); out = [] })
function_is_called = record { core = refl; plain = refl }

null_is_called : Shows (one_file functions (calling 1)) [] 2 (record { end = Undefined 4; out = [] })
null_is_called = record { core = refl; plain = refl }

-- const int k[2]={1};int main(){k[0]=2;..}: an element of a const array is not changed
abbrev k : SourceType
k = const (array (const int) 2)

abbrev of_const : List Static
of_const = set_by (codes "k") k (list (listed (num 1 ∷ [])) zeros) ∷ []

element_of_a_const_array : Shows (one_file of_const (full (store (cell (codes "k") k 0) (num 2)) ∷ returns (num 0) ∷ [])) [] 1 (record { end = Undefined 15; out = [] })
element_of_a_const_array = record { core = refl; plain = refl }

lists_of_static_arrays_are_built :
    list_all is_built_file (file_of numbers changed ∷ file_of nested of_rows ∷ file_of texts of_texts ∷ file_of functions (calling 0) ∷ file_of of_const [] ∷ []) ≡ true
lists_of_static_arrays_are_built = refl
