-- The variables of `int x;` and of the literal "a" as a program begins.
use Rattle.std.proofs.Common.{◌≡◌, ◌≤◌, [], ◌∷◌, refl, arith}
use Rattle.std.specs.Prelude.{Some, None, Ok, Err, pos, false, codes}
use Rattle.cf_base.specs.declared.kind.Kind.TheVariants.{Char, Int}
use Rattle.cc_whole.specs.declared.types.CType.TheVariants as ty
use Rattle.cc_whole.specs.declared.types.CVariableType.TheVariants as variable
use Rattle.cc_whole.specs.declared.unit.CInitialiser.TheVariants as initialiser
use Rattle.cc_whole.specs.declared.unit.CVariable.{CVariable}
use Rattle.cc_whole_memory.specs.declared.value.Pointer.TheVariants as pointer
use Rattle.cc_whole_memory.specs.declared.value.Scalar.TheVariants as scalar
use Rattle.cc_whole_memory.specs.declared.value.Value.TheVariants as value
use Rattle.cc_whole_memory.specs.Blocks.{Memory, no_memory, outside, read}
use Rattle.cc_whole_mean.specs.Scope.{no_names}
use Rattle.cc_whole_mean.specs.Start.{laid_out}
use Rattle.cf_lower.specs.Written.{int_constant}
use Rattle.cf_lower_begun.specs.Begun.{TextVariable}

abbrev x : CVariable
x = record { is_shared = false; is_static = false; ty = variable.Scalar ty.Int; name = codes "x"; initialiser = None }

abbrev text : CVariable
text = record { is_shared = false; is_static = false; ty = variable.Chars (int_constant 2); name = codes "__s0__f"; initialiser = Some (initialiser.Text (97 ∷ [])) }

abbrev memory : Memory
memory = laid_out no_names (x ∷ text ∷ []) no_memory

object-zero : read (scalar.Integer Int) (pointer.At 0 0) memory ≡ Ok (value.Number Int (pos 0))
object-zero = refl

first-byte : read (scalar.Integer Char) (pointer.At 1 0) memory ≡ Ok (value.Number Char (pos 97))
first-byte = refl

last-byte : read (scalar.Integer Char) (pointer.At 1 1) memory ≡ Ok (value.Number Char (pos 0))
last-byte = refl

no-more : read (scalar.Integer Char) (pointer.At 1 2) memory ≡ Err outside
no-more = refl

text-fits : TextVariable (97 ∷ 0 ∷ []) text
text-fits = record { ends = refl; start = refl; room = two }
  where
    two : 2 ≤ 2
    two = omega arith
