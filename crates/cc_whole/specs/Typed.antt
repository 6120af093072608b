-- The type of an expression, or its first fault: rules V1, V3, V10 and V11 of expressions and places.
use Rattle.std.specs.Prelude.{ℕ, Bool, false, not, ◌&&◌, ◌||◌, List, Option, Some, None, Ok}
use Rattle.cf_base.specs.declared.arith.Arith.{Arith}
use Rattle.cc_whole.specs.declared.types.CType.{CType}
use Rattle.cc_whole.specs.declared.types.CType.TheVariants as ty
use Rattle.cc_whole.specs.declared.types.CConstant.{CConstant}
use Rattle.cc_whole.specs.declared.expression.Prefix.{Prefix}
use Rattle.cc_whole.specs.Plain.{Place, named, pointed, Expression, constant, load, unary, cast, address, binary}
use Rattle.cc_whole.specs.Numbers.{value_of, constant_type, fits_constant, is_zero_value}
use Rattle.cc_whole.specs.Types.{same_type, is_integer, is_pointer, binary_type, may_stand_left, prefix_type, value_type, stored_type}
use Rattle.cc_whole.specs.Landmarks.{type_marks, marks}
use Rattle.cc_whole.specs.Fault.{Checked, Checks, broken, holds, moved, checked_then, ◌before◌}
use Rattle.cc_whole.specs.Known.{Meant, function, object, Named, lookup, is_main}

-- the constant 0
abbrev pub is_zero : Expression → Bool
is_zero (constant c) = is_zero_value (value_of c)
is_zero e = false

-- V11: a constant fits 32 bits
abbrev pub typed_constant : CConstant → Checked CType
typed_constant c = holds (fits_constant c) 11 0 before Ok (constant_type c)

-- the value of a name: V1, it is declared before; V10, the function `main` is not used
abbrev pub typed_name : List ℕ → Option Meant → Checked CType
typed_name name None = broken 1 0
typed_name name (Some (function p)) = holds (not (is_main name)) 10 0 before Ok ty.FunctionPointer
typed_name name (Some (object t)) = Ok (value_type t)

-- V3: an operand of `-`, `~` or `!` is an integer
abbrev pub typed_prefix : Prefix → CType → Checked CType
typed_prefix o t = holds (is_integer t) 3 0 before Ok (prefix_type o t)

-- an integer is cast to an integer type, and to a pointer type what has that type, and the constant 0
abbrev pub may_cast : CType → CType → Bool → Bool
may_cast t s zero = (is_integer t && is_integer s) || (not (is_integer t) && (same_type s t || zero))

-- V3: a cast's operand, behind its type
abbrev pub typed_cast : CType → Bool → CType → Checked CType
typed_cast t zero s = holds (may_cast t s zero) 3 (type_marks t) before Ok t

-- `(char *)&NAME`. V1: the name is declared before; V3: it is no function
abbrev pub typed_address : Option Meant → Checked CType
typed_address None = broken 1 1
typed_address (Some (function p)) = broken 3 1
typed_address (Some (object t)) = Ok ty.Pointer

-- V3: the address in a place is a pointer
abbrev pub typed_pointed : CType → CType → Checked CType
typed_pointed t s = holds (is_pointer s) 3 (type_marks t) before Ok t

abbrev pub fitted : ℕ → Option CType → Checked CType
fitted place None = broken 3 place
fitted place (Some t) = Ok t

-- V3: a left operand for which there is a right one
abbrev pub left_fits : Arith → CType → Checks
left_fits o s = holds (may_stand_left o s) 3 0

abbrev mutual
  pub typed : Expression → List Named → Checked CType
  typed (constant c) names = typed_constant c
  typed (load p) names = typed_place p names
  typed (unary o e) names = checked_then (typed e names) (typed_prefix o)
  typed (cast t e) names = checked_then (moved (type_marks t) (typed e names)) (typed_cast t (is_zero e))
  typed (address name) names = typed_address (lookup names name)
  typed (binary o a b) names =
      checked_then (typed a names) (λ s. left_fits o s before
      checked_then (moved (marks a) (typed b names)) (λ t. fitted (marks a) (binary_type o s (is_zero a) t (is_zero b))))

  -- the value that stands at a place
  pub typed_place : Place → List Named → Checked CType
  typed_place (named name) names = typed_name name (lookup names name)
  typed_place (pointed t e) names = checked_then (moved (type_marks t) (typed e names)) (typed_pointed t)

-- V3: the name of an array or a function is not assigned to
abbrev pub target_name : Option Meant → Checked CType
target_name None = broken 1 0
target_name (Some (function p)) = broken 3 0
target_name (Some (object t)) = fitted 0 (stored_type t)

-- the type of what is stored at a place
abbrev pub typed_target : Place → List Named → Checked CType
typed_target (named name) names = target_name (lookup names name)
typed_target (pointed t e) names = typed_place (pointed t e) names

-- a value of this type fits where one of that type is wanted, and the constant 0 where a pointer is
abbrev pub fits_type : CType → CType → Bool → Bool
fits_type wanted t zero = same_type t wanted || (zero && not (is_integer wanted))
