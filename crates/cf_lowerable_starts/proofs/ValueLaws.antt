-- Tests of what is known, by what it is.
use Rattle.std.proofs.Common.{◌≡◌, ℕ, Bool, true, false, ◌&&◌, ◌||◌, not, refl}
use Rattle.cf_core.specs.declared.operators.PointerOperator.TheVariants as pointer
use Rattle.cf_core.specs.Types.{Name, SourceType, is_void}
use Rattle.cf_lower.specs.Constants.{Known, unknown, a_number, null, at, a_function}
use Rattle.cf_lower_program.specs.Alike.{has_number, moves, moves_by}

or_false : (b : Bool) → (b || false) ≡ b
or_false true = refl
or_false false = refl

-- a place and a number, in either order
pub either_moves : (x y : Known) → (moves_by pointer.Subtract x y || moves_by pointer.Subtract y x) ≡ moves x y
either_moves (at n o t) (a_number z) = or_false (not (is_void t))
either_moves (a_number z) (at n o t) = refl
either_moves unknown unknown = refl
either_moves unknown (a_number z) = refl
either_moves unknown null = refl
either_moves unknown (at n o t) = refl
either_moves unknown (a_function f) = refl
either_moves (a_number z) unknown = refl
either_moves (a_number z) (a_number w) = refl
either_moves (a_number z) null = refl
either_moves (a_number z) (a_function f) = refl
either_moves null unknown = refl
either_moves null (a_number z) = refl
either_moves null null = refl
either_moves null (at n o t) = refl
either_moves null (a_function f) = refl
either_moves (at n o t) unknown = refl
either_moves (at n o t) null = refl
either_moves (at n o t) (at m p u) = refl
either_moves (at n o t) (a_function f) = refl
either_moves (a_function f) unknown = refl
either_moves (a_function f) (a_number z) = refl
either_moves (a_function f) null = refl
either_moves (a_function f) (at n o t) = refl
either_moves (a_function f) (a_function h) = refl

-- a place moves by what is a number
pub number_moves : (n : Name) (o : ℕ) (t : SourceType) (y : Known) → (has_number y && not (is_void t)) ≡ moves_by pointer.Subtract (at n o t) y
number_moves n o t unknown = refl
number_moves n o t (a_number z) = refl
number_moves n o t null = refl
number_moves n o t (at m p u) = refl
number_moves n o t (a_function f) = refl
