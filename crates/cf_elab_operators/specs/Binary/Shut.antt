-- The rows of binary operators, each under a name of its own that does not unfold. `Rattle.cf_elab_operators.proofs.BinaryLaws` says what each is.
use Rattle.std.specs.Prelude.{ℕ, List, Option, None}
use Rattle.cf_base.specs.declared.kind.Kind.{Kind}
use Rattle.cf_convert.specs.Constness.{is_const}
use Rattle.cf_convert.specs.declared.conv.ConvStep.{ConvStep}
use Rattle.cf_core.specs.declared.operators.PointerOperator.{PointerOperator}
use Rattle.cf_syntax.specs.declared.operator.BinaryOp.{BinaryOp}
use Rattle.cf_elab.specs.Answer.{Elab, ◌>>=◌, ◌>>◌, gives, known, need}
use Rattle.cf_elab.specs.Binary as binary
use Rattle.cf_elab.specs.Fit.{fit, converted}
use Rattle.cf_elab.specs.Made.{const_if, pointer_to}
use Rattle.cf_elab.specs.Operand.{Value, plain, sort_of, arithmetic}
use Rattle.cf_elab_operators.specs.Binary.Asked.{are_complete, steps_to}

-- ---- two pointers

unfoldable pub of_pointers : ℕ → PointerOperator → Value → Value → Elab Value
of_pointers at op x y = binary.of_pointers at op (x, y)

-- the types of pointers to two types, each with const where the other has it
unfoldable pub pointer_types : ℕ → ℕ → Elab (ℕ × ℕ)
pointer_types p q = do
  env ← known
  a ← const_if (is_const env.types q) p
  b ← const_if (is_const env.types p) q
  t ← pointer_to a
  u ← pointer_to b
  gives (t, u)

-- the first by these steps to a type and the second by Fit, and the other way
unfoldable pub first_by_steps : ℕ → Value → Value → ℕ → List ConvStep → Elab (Value × Value)
first_by_steps at x y u ss = do
  a ← converted at u ss x
  b ← fit at y u
  gives (a, b)

unfoldable pub second_by_steps : ℕ → Value → Value → ℕ → List ConvStep → Elab (Value × Value)
second_by_steps at x y t ss = do
  a ← fit at x t
  b ← converted at t ss y
  gives (a, b)

-- where the first has no conversion to the type
unfoldable pub second_fit : ℕ → Value → Value → ℕ → Elab (Value × Value)
second_fit at x y t = known >>= (λ env. binary.first_fit at x y t t None (steps_to env y t))

unfoldable pub first_fit : ℕ → Value → Value → ℕ → ℕ → Elab (Value × Value)
first_fit at x y t u = known >>= (λ env. binary.first_fit at x y t u (steps_to env x u) (steps_to env y t))

unfoldable pub alike_pointers : ℕ → Value → Value → ℕ → ℕ → Elab (Value × Value)
alike_pointers = binary.alike_pointers

-- by order, or for equality alone
unfoldable pub ordered : ℕ → PointerOperator → Value → Value → ℕ → ℕ → Elab Value
ordered at op x y t u = do
  env ← known
  ab ← binary.alike_pointers at x y t u
  need (are_complete env t u) 30 at
  binary.of_pointers at op ab

unfoldable pub equated : ℕ → PointerOperator → Value → Value → ℕ → ℕ → Elab Value
equated at op x y t u = binary.alike_pointers at x y t u >>= binary.of_pointers at op

unfoldable pub same_objects : ℕ → BinaryOp → Value → Value → ℕ → ℕ → Elab Value
same_objects at op x y t u = binary.same_objects at x y t u (binary.ordering op) (binary.equality op)

-- ---- a pointer and an integer

unfoldable pub moved : ℕ → PointerOperator → Value → ℕ → Kind → Value → Elab Value
moved = binary.moved

unfoldable pub moved_right : ℕ → Kind → Value → Value → ℕ → Elab Value
moved_right = binary.moved_right

unfoldable pub pointer_and_integer : ℕ → BinaryOp → Value → ℕ → Kind → Value → Elab Value
pointer_and_integer at op = binary.pointer_and_integer at op (binary.add_or_subtract op)

unfoldable pub integer_and_pointer : ℕ → BinaryOp → Value → Kind → Value → ℕ → Elab Value
integer_and_pointer = binary.integer_and_pointer

-- ---- `void*` and the constant 0

unfoldable pub with_other : ℕ → Option PointerOperator → Value → Value → ℕ → Elab Value
with_other = binary.with_other

-- two values as values of one type
unfoldable pub both_fitted : ℕ → PointerOperator → Value → Value → ℕ → Elab Value
both_fitted at op x y t = do
  a ← fit at x t
  b ← fit at y t
  binary.of_pointers at op (a, b)

unfoldable pub void_equality : ℕ → BinaryOp → Value → Value → ℕ → ℕ → Elab Value
void_equality at op = binary.void_equality at (binary.equality op)

unfoldable pub with_null : ℕ → BinaryOp → Value → Value → Elab Value
with_null = binary.with_null

-- ---- by the types

unfoldable pub by_kinds : ℕ → BinaryOp → Kind → Kind → Value → Value → Elab Value
by_kinds at op = binary.by_kinds at op (binary.integer_operator op)

-- of two plain values, by their types
unfoldable pub by_sorts : ℕ → BinaryOp → Value → Value → Elab Value
by_sorts at op x y =
    known >>= (λ env.
    binary.by_sorts at op x y (sort_of env.types x.type) (sort_of env.types y.type) (arithmetic (sort_of env.types x.type)) (arithmetic (sort_of env.types y.type)))

-- where neither is arithmetic
unfoldable pub of_two : ℕ → BinaryOp → Value → Value → Elab Value
of_two at op x y = known >>= (λ env. binary.by_sorts at op x y (sort_of env.types x.type) (sort_of env.types y.type) None None)

-- an operator that reads both operands
unfoldable pub of_plain : ℕ → BinaryOp → Value → Value → Elab Value
of_plain at op x y = do
  a ← plain x
  b ← plain y
  by_sorts at op a b

unfoldable pub operation : ℕ → BinaryOp → Value → Value → Elab Value
operation = binary.operation
