-- Files of which the laws speak, and files of built forms that are valid and yet not sound, since they are malformed.
use Rattle.std.proofs.Common.{◌≡◌, ℕ, Bool, true, false, List, [], ◌∷◌, refl}
use Rattle.std.specs.Prelude.{None, codes}
use Rattle.cf_base.specs.declared.kind.Kind.TheVariants.{Char}
use Rattle.cf_core.specs.Types.{SourceType, void, integer, pointer, reference, array, gives, const}
use Rattle.cf_core.specs.Core.{Core, plain_function, Function, Static, CoreFile, no_temporary, none, absent, local, function, static_object, read, decay, index, convert, from_void, call, list, string, bind, zeros, full, declare}
use Rattle.cf_core.specs.Valid.{valid_file}
use Rattle.cf_core.proofs.Sample.{int, in_block, listed, main_of, function_of, static_of, returns, num, add, put_digit, value_of, set, called}
use Rattle.cf_sequence.specs.Built.{is_built_file}
use Rattle.cf_file_sound.specs.Files.{is_sound_file}

abbrev file : List Function → List Static → CoreFile
file fs xs = record { classes = []; functions = fs; statics = xs }

abbrev chars : SourceType
chars = array (integer Char) 3

-- it is valid, of built forms, and sound or not
record Is (sound : Bool) (fs : List Function) (xs : List Static) : Type 0 where
  valid : valid_file (file fs xs) ≡ true
  built : is_built_file (file fs xs) ≡ true
  is : is_sound_file (file fs xs) ≡ sound

-- int main(){return 7;}
a_number : Is true (main_of (returns (num 7) ∷ []) ∷ []) []
a_number = record { valid = refl; built = refl; is = refl }

abbrev object : Static
object = record { name = codes "n"; type = int; start = num 3; owner = None; is_constant = true; is_shared = false; is_local = true }

abbrev local_function : Function
local_function =
    record (function_of (codes "f__Fi") (int ∷ []) int (in_block (put_digit (value_of 0) ∷ returns (add (value_of 0) (read (static_object (codes "n") int))) ∷ []))) { is_local = true }

-- static int n=3;static int f(int a){putchar('0'+a);return a+n;}int main(){return f(1);}
local_names : Is true (local_function ∷ main_of (returns (called (codes "f__Fi") (int ∷ []) int (num 1 ∷ [])) ∷ []) ∷ []) (object ∷ [])
local_names = record { valid = refl; built = refl; is = refl }

-- int main(){int a=1;int&r=a;r=2;return a;}
a_reference : Is true (record (main_of (declare 0 int (num 1) ∷ declare 1 (reference int) (bind no_temporary (local 0)) ∷ set (local 1) (num 2) ∷ returns (value_of 0) ∷ [])) { locals = int ∷ reference int ∷ [] } ∷ []) []
a_reference = record { valid = refl; built = refl; is = refl }

abbrev named : List ℕ → SourceType → List SourceType → List Core → Function
named name type locals body = record { name = name; role = plain_function; type = type; locals = locals; body = in_block body; is_shared = false; is_local = false }

abbrev main_as : List SourceType → List Core → Function
main_as locals body = named (codes "__main") (gives int false) locals body

-- `main` that is the file's alone, and one that gives nothing
local_main : Is false (record (main_of (returns (num 7) ∷ [])) { is_local = true } ∷ []) []
local_main = record { valid = refl; built = refl; is = refl }

main_without_status : Is false (named (codes "__main") (gives void false) [] [] ∷ []) []
main_without_status = record { valid = refl; built = refl; is = refl }

-- a name that nothing has, and one of the library's with another type
unknown_name : Is false (main_of (returns (called (codes "g__Fv") [] int []) ∷ []) ∷ []) []
unknown_name = record { valid = refl; built = refl; is = refl }

library_with_another_type : Is false (main_as [] (full (call (codes "putchar") (gives void false) absent none) ∷ []) ∷ []) []
library_with_another_type = record { valid = refl; built = refl; is = refl }

-- a pointer to a function as a pointer to void, and back as one to an object
function_as_void : Is false (main_as (pointer int ∷ []) (declare 0 (pointer int) (from_void int (convert (pointer void) (function (codes "__main") (gives int false)))) ∷ []) ∷ []) []
function_as_void = record { valid = refl; built = refl; is = refl }

-- a const reference, and an array of references
const_reference : Is false (main_as (int ∷ const (reference int) ∷ []) (declare 0 int (num 5) ∷ declare 1 (const (reference int)) (bind no_temporary (local 0)) ∷ []) ∷ []) []
const_reference = record { valid = refl; built = refl; is = refl }

references_in_array : Is false (main_as (array (reference int) 1 ∷ []) (declare 0 (array (reference int) 1) zeros ∷ []) ∷ []) []
references_in_array = record { valid = refl; built = refl; is = refl }

-- int main(){char s[3]="ab";return s[0];}
a_string : Is true (main_as (chars ∷ []) (declare 0 chars (string (97 ∷ 98 ∷ 0 ∷ [])) ∷ returns (convert int (read (index (decay (local 0)) (num 0)))) ∷ []) ∷ []) []
a_string = record { valid = refl; built = refl; is = refl }

-- int main(){int a[3][2]={{1},{2,3}};return a[1][0];}
nested_lists : Is true (main_as (array (array int 2) 3 ∷ []) (declare 0 (array (array int 2) 3) (list (listed (list (listed (num 1 ∷ [])) zeros ∷ list (listed (num 2 ∷ num 3 ∷ [])) zeros ∷ [])) zeros)
    ∷ returns (read (index (decay (index (decay (local 0)) (num 1))) (num 0))) ∷ []) ∷ []) []
nested_lists = record { valid = refl; built = refl; is = refl }

abbrev strings : Static
strings = record (static_of (codes "s") (array chars 3)) { start = list (listed (string (97 ∷ 98 ∷ 0 ∷ []) ∷ string (99 ∷ 0 ∷ []) ∷ [])) zeros }

-- char s[3][3]={"ab","c"};int main(){return s[1][0];}
a_static_array : Is true (main_of (returns (convert int (read (index (decay (index (decay (static_object (codes "s") (array chars 3))) (num 1))) (num 0)))) ∷ []) ∷ []) (strings ∷ [])
a_static_array = record { valid = refl; built = refl; is = refl }

-- an element that calls what is not there
unknown_name_in_list : Is false (main_as (array int 2 ∷ []) (declare 0 (array int 2) (list (listed (called (codes "g__Fv") [] int [] ∷ [])) zeros) ∷ []) ∷ []) []
unknown_name_in_list = record { valid = refl; built = refl; is = refl }
