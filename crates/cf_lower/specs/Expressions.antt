-- The C expression of what an action gives. Its operands stand in the C locals of their registers.
use Rattle.std.specs.Prelude.{ℕ, true, false, List, ℤ, Option, Some, None}
use Rattle.cf_base.specs.declared.kind.Kind.{Kind}
use Rattle.cf_base.specs.declared.kind.Kind.TheVariants.{Int}
use Rattle.cf_base.specs.declared.arith.Arith.{Arith}
use Rattle.cf_base.specs.declared.arith.Arith.TheVariants as op
use Rattle.cf_base.specs.Integers.{convert}
use Rattle.cf_types.specs.Operators.{is_shift}
use Rattle.cf_core.specs.declared.operators.PointerOperator.{PointerOperator}
use Rattle.cf_core.specs.declared.operators.PointerOperator.TheVariants as pointer
use Rattle.cf_core.specs.declared.operators.UnaryOperator.{UnaryOperator}
use Rattle.cf_core.specs.declared.operators.UnaryOperator.TheVariants as sign
use Rattle.cf_core.specs.Types.{Name, SourceType, void}
use Rattle.cf_core.specs.Classes.{Class}
use Rattle.cf_core.specs.Core.{Change, arithmetic, moved}
use Rattle.cf_core.specs.Places.{is_reference}
use Rattle.cf_core.specs.Size.{size}
use Rattle.cf_lower_layout.specs.Sorts.{Sort, number, address, code, sort_to, sort_of}
use Rattle.cf_plain.specs.Plain as plain
use Rattle.cf_plain.specs.Plain.{Register, Action}
use Rattle.cc_whole.specs.declared.types.CType.TheVariants as ty
use Rattle.cc_whole.specs.declared.types.CConstant.TheVariants as constants
use Rattle.cc_whole.specs.declared.expression.Prefix.{Prefix}
use Rattle.cc_whole.specs.declared.expression.Prefix.TheVariants as prefix
use Rattle.cc_whole.specs.Plain.{Expression, named, pointed, constant, load, unary, cast, address as address_of, binary}
use Rattle.cf_lower.specs.Kept.{Kept, integer_of, holds, Keeping, local_kept, Locals, type_of_local, referred}
use Rattle.cf_lower.specs.Written.{c_integer, c_type, register_type, int_constant, local_name, register_name, literal_name}

abbrev pub zero : Expression
zero = constant (int_constant 0)

-- a number, by its bits as an int
abbrev pub constant_of : ℤ → Expression
constant_of z = constant (constants.Signed (convert Int z))

-- what stands in the C local of a register
abbrev pub in_register : Sort → Register → Expression
in_register s r = load (named (register_name s r))

abbrev pub integer_in : Register → Expression
integer_in r = in_register (number Int) r

-- a place, or a pointer to an object
abbrev pub address_in : Register → Expression
address_in r = in_register (address void) r

abbrev pub local_value : Option Sort → Register → Expression
local_value None r = zero
local_value (Some s) r = in_register s r

abbrev pub value_in : Keeping → Register → Expression
value_in g r = local_value (local_kept (g r)) r

-- A value is written as a cast to its own type: a load alone would move what stands there, no value included.
abbrev pub as_value : Sort → Expression → Expression
as_value s e = cast (register_type s) e

-- a scalar's value for memory
abbrev pub as_stored : Sort → Expression → Expression
as_stored s e = cast (c_type s) e

-- what a scalar holds
abbrev pub loaded : Sort → Expression → Expression
loaded s e = as_value s (load (pointed (c_type s) e))

-- an integer of a kind, from its bits
abbrev pub at_kind : Kind → Expression → Expression
at_kind k e = cast (c_integer k) e

-- and its bits as an int
abbrev pub as_bits : Expression → Expression
as_bits e = cast ty.Int e

-- the place that a name of this type stands for (8.4.3)
abbrev pub place_named : Name → SourceType → Expression
place_named name t = elim (is_reference t) [ true ↦ as_value (sort_to (referred t)) (load (named name)) | false ↦ address_of name ]

abbrev pub operated : Arith → Kind → Expression → Expression → Expression
operated o k a b = elim (is_shift o) [ true ↦ binary o (at_kind k a) b | false ↦ binary o (at_kind k a) (at_kind k b) ]

abbrev pub prefix_of : UnaryOperator → Prefix
prefix_of sign.Negate = prefix.Negate
prefix_of sign.Complement = prefix.Complement

-- ---- pointers

abbrev pub element_bytes : List Class → Kept → ℕ
element_bytes classes (holds (address t)) = size classes t
element_bytes classes x = 1

-- a pointer moved by so many elements of so many bytes
abbrev pub moved_by : Arith → Expression → ℕ → Expression → Expression
moved_by o p n e = binary o p (binary op.Multiply e (constant (int_constant n)))

-- a pointer and an integer, in either order
abbrev pub sum_by : List Class → Kept → Kept → Register → Register → Expression
sum_by classes (holds (address t)) y r q = moved_by op.Add (address_in r) (size classes t) (integer_in q)
sum_by classes x y r q = moved_by op.Add (address_in q) (element_bytes classes y) (integer_in r)

abbrev pub sum_of : List Class → Keeping → Register → Register → Expression
sum_of classes g r q = sum_by classes (g r) (g q) r q

-- Whether two pointers are equal. Where they are to functions one of the two is null (5.10), and the C compares each with 0.
abbrev pub equated : Arith → Kept → Expression → Expression → Expression
equated o (holds (code t)) a b = binary o (binary op.Equal a zero) (binary op.Equal b zero)
equated o x a b = binary o a b

abbrev pub pointer_operated : List Class → PointerOperator → Keeping → Register → Register → Expression
pointer_operated classes pointer.Add g r q = sum_of classes g r q
pointer_operated classes pointer.Subtract g r q = moved_by op.Subtract (address_in r) (element_bytes classes (g r)) (integer_in q)
pointer_operated classes pointer.Difference g r q =
    binary op.Divide (binary op.Subtract (address_in r) (address_in q)) (constant (int_constant (element_bytes classes (g r))))
pointer_operated classes pointer.Less g r q = binary op.Less (value_in g r) (value_in g q)
pointer_operated classes pointer.Greater g r q = binary op.Greater (value_in g r) (value_in g q)
pointer_operated classes pointer.LessEqual g r q = binary op.LessEqual (value_in g r) (value_in g q)
pointer_operated classes pointer.GreaterEqual g r q = binary op.GreaterEqual (value_in g r) (value_in g q)
pointer_operated classes pointer.Equal g r q = equated op.Equal (g r) (value_in g r) (value_in g q)
pointer_operated classes pointer.NotEqual g r q = equated op.NotEqual (g r) (value_in g r) (value_in g q)

-- what the scalar holds whose place is in a register
abbrev pub loaded_or : Option Sort → Register → Expression
loaded_or None r = zero
loaded_or (Some s) r = loaded s (address_in r)

abbrev pub read_value : Kept → Register → Expression
read_value (holds (address t)) r = loaded_or (sort_of t) r
read_value x r = zero

-- what a register holds, once more
abbrev pub same_value : Kept → Register → Expression
same_value (holds s) r = as_value s (in_register s r)
same_value x r = zero

-- ---- conversions and changes

-- an integer as one of another kind; the constant 0 as a null pointer; a pointer stays what it is (4)
abbrev pub converted : Option Sort → Kept → Register → Expression
converted None x r = zero
converted (Some (number k)) x r = as_bits (at_kind k (integer_in r))
converted (Some s) (integer_of f) r = as_value s zero
converted (Some s) x r = as_value s (in_register s r)

abbrev pub changed : List Class → Change → Keeping → Register → Register → Expression
changed classes (arithmetic op k to) g r q = as_bits (at_kind to (operated op k (integer_in r) (integer_in q)))
changed classes (moved false) g r q = moved_by op.Add (address_in r) (element_bytes classes (g r)) (integer_in q)
changed classes (moved true) g r q = moved_by op.Subtract (address_in r) (element_bytes classes (g r)) (integer_in q)

-- ---- actions

-- The value of an action in a function of this name. Calls are statements of their own.
module _ (classes : List Class) (function : Name) (locals : Locals) where
  abbrev pub value : Keeping → Action → Expression
  value g (plain.number z) = constant_of z
  value g (plain.text j bytes) = address_of (literal_name function j)
  value g (plain.local i) = place_named (local_name i) (type_of_local locals i)
  value g (plain.static_object name t) = place_named name t
  value g (plain.function name t) = load (named name)
  value g (plain.read r) = read_value (g r) r
  value g (plain.dereference r) = same_value (g r) r
  value g (plain.decay r) = same_value (g r) r
  value g (plain.index r q) = sum_of classes g r q
  value g (plain.convert t r) = converted (sort_of t) (g r) r
  value g (plain.from_void t r) = as_value (address t) (address_in r)
  value g (plain.operate op k r q) = as_bits (operated op k (integer_in r) (integer_in q))
  value g (plain.unary op k r) = as_bits (unary (prefix_of op) (at_kind k (integer_in r)))
  value g (plain.truth r) = binary op.NotEqual (value_in g r) zero
  value g (plain.logical_not r) = binary op.Equal (value_in g r) zero
  value g (plain.pointer_operate op r q) = pointer_operated classes op g r q
  value g (plain.changed change r q) = changed classes change g r q
  value g (plain.declare i t) = address_of (local_name i)
  value g a = zero
