-- How the code finds the type of an expression, of a place and of what may be stored there.
use Rattle.std.specs.Prelude.{ℕ, Bool, List, Option, Some, None}
use Rattle.cc_whole.specs.declared.types.CType.{CType}
use Rattle.cc_whole.specs.declared.types.CType.TheVariants as ty
use Rattle.cc_whole.specs.declared.types.CConstant.{CConstant}
use Rattle.cc_whole.specs.declared.expression.Prefix.{Prefix}
use Rattle.cc_whole.specs.Plain.{Place, named, pointed, Expression, constant, load, unary, cast, address, binary}
use Rattle.cc_whole.specs.Numbers.{constant_type, fits_constant}
use Rattle.cc_whole.specs.Types.{is_integer, is_pointer, binary_type, may_stand_left, prefix_type, value_type, stored_type}
use Rattle.cc_whole.specs.Landmarks.{type_marks}
use Rattle.cc_whole.specs.Known.{Meant, function, object, Named, lookup, is_main}
use Rattle.cc_whole.specs.Typed.{is_zero, may_cast}
use Rattle.cc_whole_valid.specs.Walk.{Walk, and_then, ◌>>=◌, pure, past, broken_at, where_holds, unless}

-- goes past a name or number of this type
unfoldable pub past_one : CType → Walk CType
past_one t = past 1 >>= (λ u. pure t)

unfoldable pub constant_at : CConstant → Walk CType
constant_at c = λ at. where_holds (fits_constant c) 11 at (past_one (constant_type c)) at

unfoldable pub name_at : List ℕ → Option Meant → Walk CType
name_at name None = λ at. broken_at 1 at at
name_at name (Some (function p)) = λ at. unless (is_main name) 10 at (past_one ty.FunctionPointer) at
name_at name (Some (object t)) = past_one (value_type t)

-- behind `(char *)&`
unfoldable pub addressed : Option Meant → Walk CType
addressed None = λ at. broken_at 1 at at
addressed (Some (function p)) = λ at. broken_at 3 at at
addressed (Some (object t)) = past_one ty.Pointer

-- behind an operand that begins at this place
abbrev pub prefixed : ℕ → Prefix → CType → Walk CType
prefixed place o t = where_holds (is_integer t) 3 place (pure (prefix_type o t))

abbrev pub cast_to : ℕ → CType → Bool → CType → Walk CType
cast_to place t zero s = where_holds (may_cast t s zero) 3 place (pure t)

abbrev pub pointed_at : ℕ → CType → CType → Walk CType
pointed_at place t s = where_holds (is_pointer s) 3 place (pure t)

abbrev pub fitted_at : ℕ → Option CType → Walk CType
fitted_at place None = broken_at 3 place
fitted_at place (Some t) = pure t

abbrev mutual
  pub type_from : Expression → List Named → Walk CType
  type_from (constant c) names = constant_at c
  type_from (load p) names = type_at p names
  type_from (unary o e) names = λ at. and_then (type_from e names at) (prefixed at o)
  type_from (cast t e) names = past (type_marks t) >>= (λ u at. and_then (type_from e names at) (cast_to at t (is_zero e)))
  type_from (address name) names = past 1 >>= (λ u. addressed (lookup names name))
  type_from (binary o a b) names = λ at. and_then (type_from a names at) (λ s. where_holds (may_stand_left o s) 3 at
      (λ behind. and_then (type_from b names behind) (λ t. fitted_at behind (binary_type o s (is_zero a) t (is_zero b)))))

  pub type_at : Place → List Named → Walk CType
  type_at (named name) names = name_at name (lookup names name)
  type_at (pointed t e) names = past (type_marks t) >>= (λ u at. and_then (type_from e names at) (pointed_at at t))

-- what is stored under a name
unfoldable pub stored_by : Option CType → Walk CType
stored_by None = λ at. broken_at 3 at at
stored_by (Some t) = past_one t

unfoldable pub target_of_name : Option Meant → Walk CType
target_of_name None = λ at. broken_at 1 at at
target_of_name (Some (function p)) = λ at. broken_at 3 at at
target_of_name (Some (object t)) = stored_by (stored_type t)

abbrev pub target_from : Place → List Named → Walk CType
target_from (named name) names = target_of_name (lookup names name)
target_from (pointed t e) names = type_at (pointed t e) names
