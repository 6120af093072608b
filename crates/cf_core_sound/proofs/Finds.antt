-- Valid cores of built forms that are malformed, each the smallest that was found. Elaboration makes none of them but the last, whose input is not of bytes.
use Rattle.std.proofs.Common.{◌≡◌, ℕ, List, [], ◌∷◌, refl}
use Rattle.std.specs.Prelude.{pos, true, false, None, codes}
use Rattle.cf_base.specs.declared.kind.Kind.TheVariants.{Int}
use Rattle.cf_base.specs.declared.arith.Arith.TheVariants as op
use Rattle.cf_core.specs.Types.{SourceType, void, integer, pointer, reference, array, takes, gives, const}
use Rattle.cf_core.specs.Core.{Core, plain_function, Function, CoreFile, no_temporary, none, absent, given, number, local, function, read, decay, index, convert, from_void, operate, call, bind, zeros, full, declare, give}
use Rattle.cf_core.specs.Joined.{program_of}
use Rattle.cf_core.specs.Program.{Mean}
use Rattle.cf_core.specs.Valid.{valid_file}
use Rattle.cf_core.proofs.Sample.{in_block}

abbrev named : List ℕ → SourceType → List SourceType → List Core → Function
named name type locals body = record { name = name; role = plain_function; type = type; locals = locals; body = in_block body; is_shared = false; is_local = false }

abbrev file : List Function → CoreFile
file fs = record { classes = []; functions = fs; statics = [] }

-- it is valid, and has no meaning
record IsFind (fs : List Function) (input : List ℕ) : Type 0 where
  valid : valid_file (file fs) ≡ true
  malformed : Mean (program_of (file fs ∷ [])) input 0 4 20 ≡ None

-- a pointer to a function as a pointer to void, and back as one to an object
function_as_void : IsFind (named (codes "__main") (gives (integer Int) false) (pointer (integer Int) ∷ [])
    (declare 0 (pointer (integer Int)) (from_void (integer Int) (convert (pointer void) (function (codes "__main") (gives (integer Int) false)))) ∷ []) ∷ []) []
function_as_void = record { valid = refl; malformed = refl }

-- `putchar` as a function that takes nothing
library_with_another_type : IsFind (named (codes "__main") (gives (integer Int) false) [] (full (call (codes "putchar") (gives void false) absent none) ∷ []) ∷ []) []
library_with_another_type = record { valid = refl; malformed = refl }

-- `main` that gives nothing, and one that takes a parameter
main_without_status : IsFind (named (codes "__main") (gives void false) [] [] ∷ []) []
main_without_status = record { valid = refl; malformed = refl }

main_with_parameter : IsFind (named (codes "__main") (takes (integer Int) (gives (integer Int) false)) [] [] ∷ []) []
main_with_parameter = record { valid = refl; malformed = refl }

-- a const reference, whose name stands for the reference in the types and for what it is bound to in the meaning
const_reference : IsFind (named (codes "__main") (gives (integer Int) false) (integer Int ∷ const (reference (integer Int)) ∷ reference (integer Int) ∷ [])
    (declare 0 (integer Int) (number (pos 5)) ∷ declare 1 (const (reference (integer Int))) (bind no_temporary (local 0)) ∷ declare 2 (reference (integer Int)) (read (local 1)) ∷ full (read (local 2)) ∷ []) ∷ []) []
const_reference = record { valid = refl; malformed = refl }

-- null from an array of references
references_in_array : IsFind
    (named (codes "f__Fv") (gives (reference (integer Int)) false) (array (reference (integer Int)) 1 ∷ [])
    (declare 0 (array (reference (integer Int)) 1) zeros ∷ give (given (read (index (decay (local 0)) (number (pos 0))))) ∷ [])
    ∷ named (codes "__main") (gives (integer Int) false) [] (full (read (call (codes "f__Fv") (gives (reference (integer Int)) false) absent none)) ∷ []) ∷ []) []
references_in_array = record { valid = refl; malformed = refl }

-- a number that is no int, from an input that is not of bytes
great_input : IsFind (named (codes "__main") (gives (integer Int) false) [] (give (given (operate op.Add Int (call (codes "getchar") (gives (integer Int) false) absent none) (number (pos 1)))) ∷ []) ∷ []) (4294967296 ∷ [])
great_input = record { valid = refl; malformed = refl }
