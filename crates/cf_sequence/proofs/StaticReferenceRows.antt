-- Static references: of a place of something static, and of a temporary, which is a static object of its own (8.4, 8.4.3).
use Rattle.std.proofs.Common.{◌≡◌, List, [], ◌∷◌, refl}
use Rattle.std.specs.Prelude.{pos, codes, true}
use Rattle.std.specs.List.{list_all}
use Rattle.cf_base.specs.Event.{Ended, Undefined}
use Rattle.cf_core.specs.Types.{Name, SourceType, pointer, reference, array, const}
use Rattle.cf_core.specs.Core.{Core, Static, CoreFile, no_temporary, static_temporary, absent, static_object, function, address, read, decay, index, pointer_call, bind, full, store, list, zeros}
use Rattle.cf_core.specs.Calls.{Program}
use Rattle.cf_core.specs.Joined.{program_of}
use Rattle.cf_core.proofs.Sample.{int, function_type, function_of, listed, in_block, main_of, static_of, returns, num, add, called}
use Rattle.cf_sequence.specs.Built.{is_built_file}
use Rattle.cf_sequence.proofs.Sample.{Shows}

abbrev set_by : Name → SourceType → Core → Static
set_by name t e = record (static_of name t) { start = e }

abbrev file_of : List Static → List Core → CoreFile
file_of xs ss = record {
  classes = [];
  functions = function_of (codes "f__Fv") [] int (in_block (returns (read (static_object (codes "r") (reference int))) ∷ [])) ∷ main_of ss ∷ [];
  statics = xs;
}

abbrev one_file : List Static → List Core → Program
one_file xs ss = program_of (file_of xs ss ∷ [])

abbrev x : Core
x = static_object (codes "x") int

-- int x=3;int&r=x;int f(){return r;}int main(){r=5;return x+f();}: the name of the reference stands for the object
abbrev of_object : List Static
of_object = set_by (codes "x") int (num 3) ∷ set_by (codes "r") (reference int) (bind no_temporary x) ∷ []

abbrev through_reference : List Core
through_reference = full (store (static_object (codes "r") (reference int)) (num 5)) ∷ returns (add (read x) (called (codes "f__Fv") [] int [])) ∷ []

reference_of_an_object : Shows (one_file of_object through_reference) [] 2 (record { end = Ended (pos 10); out = [] })
reference_of_an_object = record { core = refl; plain = refl }

-- int main(){static int x=1;static int&r=x; ..}: an element of an array, and an object that stands behind the reference
abbrev a : SourceType
a = array int 2

abbrev of_element : List Static
of_element = set_by (codes "r") (reference int) (bind no_temporary (index (decay (static_object (codes "a") a)) (num 1))) ∷ set_by (codes "a") a (list (listed (num 1 ∷ num 2 ∷ [])) zeros) ∷ []

reference_of_an_element : Shows (one_file of_element (returns (called (codes "f__Fv") [] int []) ∷ [])) [] 2 (record { end = Ended (pos 2); out = [] })
reference_of_an_element = record { core = refl; plain = refl }

-- const int&r=7;int main(){return r+f();}: the temporary is a static object of its own
abbrev kept : Name
kept = codes "r__temporary"

abbrev of_temporary : List Static
of_temporary = static_of kept (const int) ∷ set_by (codes "r") (reference (const int)) (bind (static_temporary kept) (num 7)) ∷ []

abbrev read_r : Core
read_r = read (static_object (codes "r") (reference (const int)))

reference_of_a_temporary : Shows (one_file of_temporary (returns (add read_r read_r) ∷ [])) [] 1 (record { end = Ended (pos 14); out = [] })
reference_of_a_temporary = record { core = refl; plain = refl }

-- int*const&r=&x;int x=4;int main(){*r=6;..}: a temporary that holds an address
abbrev of_address : List Static
of_address =
    static_of kept (const (pointer int))
    ∷ set_by (codes "r") (reference (const (pointer int))) (bind (static_temporary kept) (address x))
    ∷ set_by (codes "x") int (num 4) ∷ []

abbrev to_x : Core
to_x = index (read (static_object (codes "r") (reference (const (pointer int))))) (num 0)

reference_of_an_address : Shows (one_file of_address (full (store to_x (num 6)) ∷ returns (read x) ∷ [])) [] 1 (record { end = Ended (pos 6); out = [] })
reference_of_an_address = record { core = refl; plain = refl }

-- a temporary is const
write_to_a_temporary : Shows (one_file of_temporary (full (store (static_object (codes "r") (reference (const int))) (num 1)) ∷ returns (num 0) ∷ [])) [] 1 (record { end = Undefined 15; out = [] })
write_to_a_temporary = record { core = refl; plain = refl }

-- int(&g)()=f;int main(){return g();}: a reference of a function
abbrev of_function : List Static
of_function =
    set_by (codes "x") int (num 8) ∷ set_by (codes "r") (reference int) (bind no_temporary x)
    ∷ set_by (codes "g") (reference (function_type [] int)) (bind no_temporary (function (codes "f__Fv") (function_type [] int))) ∷ []

reference_of_a_function :
    Shows (one_file of_function (returns (pointer_call absent (decay (static_object (codes "g") (reference (function_type [] int)))) (function_type [] int) (listed [])) ∷ [])) [] 2
    (record { end = Ended (pos 8); out = [] })
reference_of_a_function = record { core = refl; plain = refl }

static_references_are_built :
    list_all is_built_file
    (file_of of_object through_reference ∷ file_of of_element [] ∷ file_of of_temporary [] ∷ file_of of_address [] ∷ file_of of_function [] ∷ []) ≡ true
static_references_are_built = refl
