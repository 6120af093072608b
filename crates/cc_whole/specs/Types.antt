-- Types of the small C: which are the same, and what operators give.
use Rattle.std.specs.Prelude.{Bool, true, false, not, ◌&&◌, ◌||◌, ◌==◌, if◌then◌else◌, List, [], ◌∷◌, Option, Some, None, map}
use denote.Enum.Bare.{sameb}
use Rattle.cf_base.specs.declared.arith.Arith.{Arith}
use Rattle.cf_base.specs.declared.arith.Arith.TheVariants as op
use Rattle.cc_whole.specs.contracts.types.CType.{the_type}
use Rattle.cc_whole.specs.declared.types.CType.{CType}
use Rattle.cc_whole.specs.declared.types.CType.TheVariants as ty
use Rattle.cc_whole.specs.declared.types.CSignature.{CSignature}
use Rattle.cc_whole.specs.declared.types.CVariableType.{CVariableType}
use Rattle.cc_whole.specs.declared.types.CVariableType.TheVariants as variable
use Rattle.cc_whole.specs.declared.types.CLocalType.{CLocalType}
use Rattle.cc_whole.specs.declared.types.CLocalType.TheVariants as «local»
use Rattle.cc_whole.specs.declared.expression.Prefix.{Prefix}
use Rattle.cc_whole.specs.declared.expression.Prefix.TheVariants as prefix
use Rattle.cc_whole.specs.declared.unit.CParameter.{CParameter}
use Rattle.cc_whole.specs.declared.unit.CPrototype.{CPrototype}
use Rattle.cc_whole.specs.Numbers.{size_of}

-- `==` on types
unfoldable pub same_type : CType → CType → Bool
same_type = sameb the_type

abbrev pub is_pointer : CType → Bool
is_pointer ty.Pointer = true
is_pointer t = false

abbrev pub is_function_pointer : CType → Bool
is_function_pointer ty.FunctionPointer = true
is_function_pointer t = false

abbrev pub is_integer : CType → Bool
is_integer t = not (is_pointer t) && not (is_function_pointer t)

-- ---- what operators give

-- an integer is promoted: `unsigned` stays, all others are int
abbrev pub promoted : CType → CType
promoted ty.UInt = ty.UInt
promoted t = ty.Int

abbrev pub is_unsigned : CType → Bool
is_unsigned ty.UInt = true
is_unsigned t = false

-- the type in which two integers are computed
abbrev pub usual_type : CType → CType → CType
usual_type s t = if is_unsigned s || is_unsigned t then ty.UInt else ty.Int

abbrev pub is_equality : Arith → Bool
is_equality op.Equal = true
is_equality op.NotEqual = true
is_equality o = false

abbrev pub is_comparison : Arith → Bool
is_comparison op.Less = true
is_comparison op.Greater = true
is_comparison op.LessEqual = true
is_comparison op.GreaterEqual = true
is_comparison o = is_equality o

abbrev pub is_shift : Arith → Bool
is_shift op.ShiftLeft = true
is_shift op.ShiftRight = true
is_shift o = false

abbrev pub is_add : Arith → Bool
is_add op.Add = true
is_add o = false

abbrev pub is_subtract : Arith → Bool
is_subtract op.Subtract = true
is_subtract o = false

-- of two integers: a comparison is an int, a shift has the type of its left side
abbrev pub arithmetic_type : Arith → CType → CType → CType
arithmetic_type o s t = if is_comparison o then ty.Int else (if is_shift o then promoted s else usual_type s t)

-- a pointer and an integer that are added, or subtracted in this order
abbrev pub moves_pointer : Arith → CType → CType → Bool
moves_pointer o s t = (is_pointer s && (is_integer t && (is_add o || is_subtract o))) || (is_integer s && (is_pointer t && is_add o))

-- two pointers that are subtracted or compared, or one of either kind that is compared with the constant 0; `zero` says of an operand that
-- it is that constant
abbrev pub compares : Arith → CType → Bool → CType → Bool → Bool
compares o s s_zero t t_zero =
    (is_pointer s && (is_pointer t && (is_subtract o || is_comparison o)))
    || (is_equality o && ((not (is_integer s) && t_zero) || (s_zero && not (is_integer t))))

-- the type of two operands and an operator, if they fit
abbrev pub binary_type : Arith → CType → Bool → CType → Bool → Option CType
binary_type o s s_zero t t_zero =
    if is_integer s && is_integer t then Some (arithmetic_type o s t)
    else (if moves_pointer o s t then Some ty.Pointer
    else (if compares o s s_zero t t_zero then Some ty.Int else None))

-- some right operand fits behind a left one of this type
abbrev pub may_stand_left : Arith → CType → Bool
may_stand_left o s = is_integer s || (is_equality o || (is_pointer s && (is_add o || (is_subtract o || is_comparison o))))

-- `!` gives an int, and the others the type of their promoted operand
abbrev pub prefix_type : Prefix → CType → CType
prefix_type prefix.Not t = ty.Int
prefix_type o t = promoted t

-- ---- types of variables

-- the type of a variable's value: an array gives its address
abbrev pub value_type : CVariableType → CType
value_type (variable.Scalar t) = t
value_type t = ty.Pointer

-- the type of what may be stored in a variable: nothing in an array
abbrev pub stored_type : CVariableType → Option CType
stored_type (variable.Scalar t) = Some t
stored_type t = None

-- a local, as a variable
abbrev pub local_type : CLocalType → CVariableType
local_type («local».Scalar t) = variable.Scalar t
local_type («local».Ints c) = variable.Ints c

abbrev pub same_variable : CVariableType → CVariableType → Bool
same_variable (variable.Scalar s) (variable.Scalar t) = same_type s t
same_variable (variable.Ints c) (variable.Ints d) = size_of c == size_of d
same_variable (variable.Chars c) (variable.Chars d) = size_of c == size_of d
same_variable (variable.Pairs c) (variable.Pairs d) = size_of c == size_of d
same_variable s t = false

-- ---- types of functions

abbrev pub same_result : Option CType → Option CType → Bool
same_result None None = true
same_result None (Some t) = false
same_result (Some s) None = false
same_result (Some s) (Some t) = same_type s t

abbrev pub same_types : List CType → List CType → Bool
same_types [] [] = true
same_types [] (t ∷ ts) = false
same_types (s ∷ ss) [] = false
same_types (s ∷ ss) (t ∷ ts) = same_type s t && same_types ss ts

abbrev pub parameter_types : List CParameter → List CType
parameter_types parameters = map (λ (p : CParameter). p.ty) parameters

abbrev pub signature_of : CPrototype → CSignature
signature_of p = record { result = p.result; parameters = parameter_types p.parameters }

abbrev pub same_signature : CSignature → CSignature → Bool
same_signature s t = same_result s.result t.result && same_types s.parameters t.parameters
