-- Binary operators (5.6 to 5.15).
use Rattle.std.specs.Prelude.{ℕ, Bool, true, false, ◌&&◌, if◌then◌else◌, List, Option, None, Some}
use Rattle.cf_base.specs.declared.kind.Kind.{Kind}
use Rattle.cf_base.specs.declared.arith.Arith.{Arith}
use Rattle.cf_base.specs.declared.arith.Arith.TheVariants as op
use Rattle.cf_types.specs.Table.{Table}
use Rattle.cf_types.specs.declared.ty.Ty.{Ty}
use Rattle.cf_types.specs.declared.ty.Ty.TheVariants as ty
use Rattle.cf_convert.specs.Constness.{bare, is_const, type_at}
use Rattle.cf_convert.specs.Converts.{steps}
use Rattle.cf_convert.specs.declared.conv.ConvStep.{ConvStep}
use Rattle.cf_syntax.specs.declared.operator.BinaryOp.{BinaryOp}
use Rattle.cf_syntax.specs.declared.operator.BinaryOp.TheVariants as binary
use Rattle.cf_core.specs.declared.operators.PointerOperator.{PointerOperator}
use Rattle.cf_core.specs.declared.operators.PointerOperator.TheVariants as pointer
use Rattle.cf_core.specs.declared.node.Core.TheVariants as node
use Rattle.cf_elab.specs.Answer.{Elab, ◌>>=◌, ◌>>◌, gives, breaks, need, known}
use Rattle.cf_elab.specs.Made.{int, pointer_to, const_if}
use Rattle.cf_elab.specs.Operand.{Value, val, defs, computed, is_zero, plain, Sort, sort_of, arithmetic, object_pointer, void_pointer, data_pointer, method_pointer, void_sort}
use Rattle.cf_elab.specs.Fit.{fit, converted, to_kind}
use Rattle.cf_elab.specs.Arithmetic.{on_kinds, conjunction, disjunction}
use Rattle.cf_elab.specs.Complete.{complete}

-- the operator on integers, where it is one
abbrev pub integer_operator : BinaryOp → Option Arith
integer_operator binary.LogicalOr = None
integer_operator binary.LogicalAnd = None
integer_operator binary.BitOr = Some op.Or
integer_operator binary.BitXor = Some op.Xor
integer_operator binary.BitAnd = Some op.And
integer_operator binary.Equal = Some op.Equal
integer_operator binary.NotEqual = Some op.NotEqual
integer_operator binary.Less = Some op.Less
integer_operator binary.Greater = Some op.Greater
integer_operator binary.LessEqual = Some op.LessEqual
integer_operator binary.GreaterEqual = Some op.GreaterEqual
integer_operator binary.ShiftLeft = Some op.ShiftLeft
integer_operator binary.ShiftRight = Some op.ShiftRight
integer_operator binary.Add = Some op.Add
integer_operator binary.Subtract = Some op.Subtract
integer_operator binary.Multiply = Some op.Multiply
integer_operator binary.Divide = Some op.Divide
integer_operator binary.Remainder = Some op.Remainder
integer_operator binary.DotStar = None
integer_operator binary.ArrowStar = None

-- how two pointers are compared: by order, or for equality alone
abbrev pub ordering : BinaryOp → Option PointerOperator
ordering binary.Less = Some pointer.Less
ordering binary.Greater = Some pointer.Greater
ordering binary.LessEqual = Some pointer.LessEqual
ordering binary.GreaterEqual = Some pointer.GreaterEqual
ordering binary.Subtract = Some pointer.Difference
ordering other = None

abbrev pub equality : BinaryOp → Option PointerOperator
equality binary.Equal = Some pointer.Equal
equality binary.NotEqual = Some pointer.NotEqual
equality other = None

-- Two pointers to one object type after Fit: one becomes the other's type, with const added under both where one has it.

abbrev pub first_fit : ℕ → Value → Value → ℕ → ℕ → Option (List ConvStep) → Option (List ConvStep) → Elab (Value × Value)
first_fit at x y t u (Some ss) other = do
  a ← converted at u ss x
  b ← fit at y u
  gives (a, b)
first_fit at x y t u None (Some ss) = do
  a ← fit at x t
  b ← converted at t ss y
  gives (a, b)
first_fit at x y t u None None = breaks 18 at

abbrev pub alike_pointers : ℕ → Value → Value → ℕ → ℕ → Elab (Value × Value)
alike_pointers at x y p q = do
  env ← known
  a ← const_if (is_const env.types q) p
  b ← const_if (is_const env.types p) q
  t ← pointer_to a
  u ← pointer_to b
  now ← known
  first_fit at x y t u (steps now.types (defs now) (val x) u) (steps now.types (defs now) (val y) t)

abbrev pub of_pointers : ℕ → PointerOperator → Value × Value → Elab Value
of_pointers at op ab = do
  t ← int
  gives (computed at (node.PointerOperate at op ab.0.node ab.1.node) t)

-- a pointer and an integer: the pointer's elements are complete objects (5.7)
abbrev pub moved : ℕ → PointerOperator → Value → ℕ → Kind → Value → Elab Value
moved at op p t k i = do
  need_complete
  b ← to_kind k i
  gives (record (computed at (node.PointerOperate at op p.node b.node) p.type) { is_fixed = p.is_fixed && is_some_number b })
  where
    need_complete : Elab (Unit {0})
    need_complete = known >>= (λ env. need (complete env t) 30 at)

    is_some_number : Value → Bool
    is_some_number b = elim b.number [ None ↦ false | Some z ↦ true ]

-- the integer stands on the left
abbrev pub moved_right : ℕ → Kind → Value → Value → ℕ → Elab Value
moved_right at k i p t = do
  env ← known
  need (complete env t) 30 at
  a ← to_kind k i
  gives (record (computed at (node.PointerOperate at pointer.Add a.node p.node) p.type) { is_fixed = p.is_fixed && (elim a.number [ None ↦ false | Some z ↦ true ]) })

abbrev pub same_objects : ℕ → Value → Value → ℕ → ℕ → Option PointerOperator → Option PointerOperator → Elab Value
same_objects at x y t u None None = breaks 18 at
same_objects at x y t u None (Some op) = alike_pointers at x y t u >>= of_pointers at op
same_objects at x y t u (Some op) other = do
  env ← known
  ab ← alike_pointers at x y t u
  need (complete env t && complete env u) 30 at
  of_pointers at op ab

-- a pointer and `void*` or the constant 0, by equality
abbrev pub with_other : ℕ → Option PointerOperator → Value → Value → ℕ → Elab Value
with_other at None x y t = breaks 18 at
with_other at (Some op) x y t = do
  a ← fit at x t
  b ← fit at y t
  of_pointers at op (a, b)

abbrev pub void_equality : ℕ → Option PointerOperator → Value → Value → ℕ → ℕ → Elab Value
void_equality at op x y void_type other = do
  env ← known
  v ← const_if (is_const env.types other) void_type
  t ← pointer_to v
  with_other at op x y t

abbrev pub with_null : ℕ → BinaryOp → Value → Value → Elab Value
with_null at op x y = if is_zero y.number then with_other at (equality op) x y x.type else (if is_zero x.number then with_other at (equality op) x y y.type else breaks 18 at)

abbrev pub pointed : Table → ℕ → ℕ
pointed types t = pointee types (type_at types (bare types t))
  where
    pointee : Table → Ty → ℕ
    pointee types (ty.Ptr u) = u
    pointee types other = t

abbrev pub add_or_subtract : BinaryOp → Option PointerOperator
add_or_subtract binary.Add = Some pointer.Add
add_or_subtract binary.Subtract = Some pointer.Subtract
add_or_subtract other = None

abbrev pub pointer_and_integer : ℕ → BinaryOp → Option PointerOperator → Value → ℕ → Kind → Value → Elab Value
pointer_and_integer at op None x t k y = with_null at op x y
pointer_and_integer at op (Some p) x t k y = moved at p x t k y

abbrev pub integer_and_pointer : ℕ → BinaryOp → Value → Kind → Value → ℕ → Elab Value
integer_and_pointer at binary.Add x k y t = moved_right at k x y t
integer_and_pointer at op x k y t = with_null at op x y

abbrev pub by_kinds : ℕ → BinaryOp → Option Arith → Kind → Kind → Value → Value → Elab Value
by_kinds at op None k l x y = breaks 18 at
by_kinds at op (Some a) k l x y = on_kinds at a k l x y

-- by the sorts of the two operands; pointers to members are compared with 0, and those to data members with each other
abbrev pub by_sorts : ℕ → BinaryOp → Value → Value → Sort → Sort → Option Kind → Option Kind → Elab Value
by_sorts at op x y s r (Some k) (Some l) = by_kinds at op (integer_operator op) k l x y
by_sorts at op x y (object_pointer t) s None (Some l) = pointer_and_integer at op (add_or_subtract op) x t l y
by_sorts at op x y s (object_pointer t) (Some k) None = integer_and_pointer at op x k y t
by_sorts at op x y void_sort r None (Some l) = breaks 18 at
by_sorts at op x y s void_sort (Some k) None = breaks 18 at
by_sorts at op x y s r None (Some l) = with_null at op x y
by_sorts at op x y s r (Some k) None = with_null at op x y
by_sorts at op x y (object_pointer t) (object_pointer u) None None = same_objects at x y t u (ordering op) (equality op)
by_sorts at op x y (object_pointer t) void_pointer None None = known >>= (λ env. void_equality at (equality op) x y (pointed env.types y.type) t)
by_sorts at op x y void_pointer (object_pointer u) None None = known >>= (λ env. void_equality at (equality op) x y (pointed env.types x.type) u)
by_sorts at op x y void_pointer void_pointer None None = known >>= (λ env. void_equality at (equality op) x y (pointed env.types x.type) (pointed env.types y.type))
by_sorts at op x y (data_pointer c t) (data_pointer d u) None None = with_member at (equality op)
  where
    with_member : ℕ → Option PointerOperator → Elab Value
    with_member at None = breaks 18 at
    with_member at (Some p) = known >>= (λ env. first_fit at x y x.type y.type (steps env.types (defs env) (val x) y.type) (steps env.types (defs env) (val y) x.type)) >>= of_pointers at p
by_sorts at op x y (method_pointer c f) (method_pointer d g) None None = methods_compared (equality op)
  where
    methods_compared : Option PointerOperator → Elab Value
    methods_compared None = breaks 18 at
    methods_compared (Some p) = breaks 48 at
by_sorts at op x y s r None None = breaks 18 at

-- two operands that are no class objects
abbrev pub operation : ℕ → BinaryOp → Value → Value → Elab Value
operation at binary.LogicalAnd x y = conjunction at x y
operation at binary.LogicalOr x y = disjunction at x y
operation at op x y = do
  a ← plain x
  b ← plain y
  env ← known
  by_sorts at op a b (sort_of env.types a.type) (sort_of env.types b.type) (arithmetic (sort_of env.types a.type)) (arithmetic (sort_of env.types b.type))
