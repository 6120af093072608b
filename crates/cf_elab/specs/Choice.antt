-- Conditional expressions, assignments, commas (5.16 to 5.18).
use Rattle.std.specs.Prelude.{ℕ, Bool, true, false, ◌==◌, ◌&&◌, if◌then◌else◌, List, [], ◌∷◌, ℤ, Option, None, Some}
use Rattle.cf_base.specs.declared.kind.Kind.{Kind}
use Rattle.cf_base.specs.declared.arith.Arith.{Arith}
use Rattle.cf_base.specs.declared.arith.Arith.TheVariants as op
use Rattle.cf_base.specs.Promotion.{usual}
use Rattle.cf_types.specs.Operators.{is_shift}
use Rattle.cf_convert.specs.Converts.{steps}
use Rattle.cf_convert.specs.declared.conv.ConvStep.{ConvStep}
use Rattle.cf_syntax.specs.declared.operator.AssignOp.{AssignOp}
use Rattle.cf_syntax.specs.declared.operator.AssignOp.TheVariants as assign
use Rattle.cf_syntax.specs.declared.operator.BinaryOp.{BinaryOp}
use Rattle.cf_syntax.specs.declared.operator.BinaryOp.TheVariants as binary
use Rattle.cf_core.specs.declared.node.Change.{Change}
use Rattle.cf_core.specs.declared.node.Change.TheVariants as change
use Rattle.cf_core.specs.declared.node.Core.{Core as Node}
use Rattle.cf_core.specs.declared.node.Core.TheVariants as node
use Rattle.cf_types.specs.declared.ty.Ty.TheVariants as ty
use Rattle.cf_classes.specs.Special.{specials}
use Rattle.cf_elab.specs.Copying.{by_copy}
use Rattle.cf_elab.specs.Members.{class_number}
use Rattle.cf_elab.specs.MethodNode.{object_place, unused}
use Rattle.cf_elab.specs.Env.{Env}
use Rattle.cf_elab.specs.UserFit.{fit}
use Rattle.cf_elab.specs.ClassOperand.{truth}
use Rattle.cf_elab.specs.Answer.{Elab, ◌>>=◌, ◌>>◌, gives, breaks, need, known}
use Rattle.cf_elab.specs.Made.{of_kind, intern}
use Rattle.cf_elab.specs.Operand.{Value, val, defs, computed, place_of, plain, Sort, sort_of, arithmetic, void_sort, integral, object_pointer}
use Rattle.cf_elab.specs.Fit.{converted, to_kind}
use Rattle.cf_elab.specs.Arithmetic.{is_nonzero}
use Rattle.cf_elab.specs.Binary.{operation}
use Rattle.cf_elab.specs.Unary.{need_modifiable}
use Rattle.cf_elab.specs.Cast.{takes_null}
use Rattle.cf_elab.specs.Complete.{complete}

-- ---- c ? a : b

abbrev pub chosen : Option ℤ → Option ℤ → Option ℤ → Option ℤ
chosen (Some c) (Some a) (Some b) = if is_nonzero c then Some a else Some b
chosen c a b = None

abbrev pub one_of : ℕ → Value → Value → Value → ℕ → Value
one_of at c a b t =
    record (computed at (node.Conditional at c.node a.node b.node) t) { number = chosen c.number a.number b.number; is_fixed = false }

-- two lvalues of one type stay an lvalue of it, and two const ones whose numbers are known have the chosen number (5.19)
abbrev pub one_place : ℕ → Value → Value → Value → Value
one_place at c a b = record (place_of at (node.Conditional at c.node a.node b.node) a.type false) { number = chosen c.number a.number b.number }

abbrev pub both_arithmetic : ℕ → Value → Value → Value → Kind → Kind → Elab Value
both_arithmetic at c x y k l = do
  a ← to_kind (usual k l) x
  b ← to_kind (usual k l) y
  t ← of_kind (usual k l)
  gives (one_of at c a b t)

-- a pointer or pointer to member as the other's type
abbrev pub one_type : ℕ → Value → Value → Value → Option (List ConvStep) → Option (List ConvStep) → Elab Value
one_type at c x y (Some ss) other = do
  a ← converted at y.type ss x
  gives (one_of at c a y y.type)
one_type at c x y None (Some ss) = do
  b ← converted at x.type ss y
  gives (one_of at c x b x.type)
one_type at c x y None None = breaks 18 at

abbrev pub alternatives : ℕ → Value → Value → Value → Sort → Sort → Option Kind → Option Kind → Elab Value
alternatives at c x y s r (Some k) (Some l) = both_arithmetic at c x y k l
alternatives at c x y void_sort void_sort None None = gives (one_of at c x y x.type)
alternatives at c x y s r k l = do
  env ← known
  need (elim (takes_null s) [ true ↦ true | false ↦ takes_null r ]) 18 at
  one_type at c x y (steps env.types (defs env) (val x) y.type) (steps env.types (defs env) (val y) x.type)

-- two objects of one class: a copy of the chosen one (12.2, 12.8)
abbrev pub same_class : Option ℕ → Option ℕ → Option ℕ
same_class (Some a) (Some b) = if a == b then Some a else None
same_class a b = None

abbrev pub one_object : ℕ → Value → Value → Value → ℕ → Elab Value
one_object at c x y k = do
  t ← intern (ty.Class k)
  env ← known
  n ← by_copy at k (place_of at (node.Conditional at c.node (object_place x).node (object_place y).node) t false) (specials env.types (defs env) k).copy
  gives (computed at n t)

-- Truth of the condition; then the two by their types, else K18
abbrev pub conditional : ℕ → Value → Value → Value → Elab Value
conditional at condition x y = do
  c ← truth 13 at condition
  env ← known
  if x.is_lvalue && y.is_lvalue && (x.type == y.type) then gives (one_place at c x y)
      else by_class c (same_class (class_number (sort_of env.types x.type)) (class_number (sort_of env.types y.type)))
  where
    by_values : Value → Elab Value
    by_values c = do
      a ← plain x
      b ← plain y
      env ← known
      alternatives at c a b (sort_of env.types a.type) (sort_of env.types b.type) (arithmetic (sort_of env.types a.type)) (arithmetic (sort_of env.types b.type))

    by_class : Value → Option ℕ → Elab Value
    by_class c None = by_values c
    by_class c (Some k) = one_object at c x y k

-- ---- assignments

-- K12, then Fit
abbrev pub stored : ℕ → Value → Value → Elab Value
stored at v x = do
  need_modifiable at v
  a ← fit at x v.type
  gives (place_of at (node.Store at v.node a.node) v.type false)

-- the operator of `op=`; `=` alone has none
abbrev pub updating : AssignOp → Option Arith
updating assign.Assign = None
updating assign.Multiply = Some op.Multiply
updating assign.Divide = Some op.Divide
updating assign.Remainder = Some op.Remainder
updating assign.Add = Some op.Add
updating assign.Subtract = Some op.Subtract
updating assign.ShiftLeft = Some op.ShiftLeft
updating assign.ShiftRight = Some op.ShiftRight
updating assign.BitAnd = Some op.And
updating assign.BitXor = Some op.Xor
updating assign.BitOr = Some op.Or

abbrev pub updated : ℕ → Value → Change → Value → Elab Value
updated at v c x = gives (place_of at (node.Update at v.node c x.node) v.type false)

abbrev pub operand_kind : Arith → Kind → Kind → Kind
operand_kind o k l = if is_shift o then l else usual k l

abbrev pub operator_kind : Arith → Kind → Kind → Kind
operator_kind o k l = if is_shift o then k else usual k l

-- + and - move a pointer to a complete object
abbrev pub moves : Arith → Option Bool
moves op.Add = Some false
moves op.Subtract = Some true
moves other = None

abbrev pub moved_pointer : ℕ → Value → ℕ → Kind → Value → Option Bool → Elab Value
moved_pointer at v t l x None = breaks 18 at
moved_pointer at v t l x (Some back) = do
  env ← known
  need (complete env t) 30 at
  a ← to_kind l x
  updated at v (change.Moved back) a

-- the binary operator of `op=`
abbrev pub binary_of : Arith → BinaryOp
binary_of op.Multiply = binary.Multiply
binary_of op.Divide = binary.Divide
binary_of op.Remainder = binary.Remainder
binary_of op.Add = binary.Add
binary_of op.Subtract = binary.Subtract
binary_of op.ShiftLeft = binary.ShiftLeft
binary_of op.ShiftRight = binary.ShiftRight
binary_of op.Less = binary.Less
binary_of op.Greater = binary.Greater
binary_of op.LessEqual = binary.LessEqual
binary_of op.GreaterEqual = binary.GreaterEqual
binary_of op.Equal = binary.Equal
binary_of op.NotEqual = binary.NotEqual
binary_of op.And = binary.BitAnd
binary_of op.Xor = binary.BitXor
binary_of op.Or = binary.BitOr

-- the first that fails: the binary operator on the two, or its result back to the type of the place
abbrev pub not_combined : ℕ → Arith → Value → Value → Elab Value
not_combined at o v x = do
  z ← operation at (binary_of o) v x
  back ← fit at z v.type
  breaks 18 at

-- As the binary operator, and back to the type of the place: integers stay integers, and a pointer that is moved stays one. Of all other types
-- either the operator takes none or its result does not come back: an enumeration takes no integer, an integer no pointer, a pointer no difference.
abbrev pub combined : ℕ → Arith → Value → Value → Sort → Option Kind → Option Kind → Elab Value
combined at o v x (integral k) (Some p) (Some l) = do
  a ← to_kind (operand_kind o p l) x
  updated at v (change.Arithmetic o (operator_kind o p l) k) a
combined at o v x (object_pointer t) None (Some l) = moved_pointer at v t l x (moves o)
combined at o v x s p l = not_combined at o v x

abbrev pub update : ℕ → Arith → Value → Value → Elab Value
update at o v y = do
  need_modifiable at v
  x ← plain y
  env ← known
  combined at o v x (sort_of env.types v.type) (arithmetic (sort_of env.types v.type)) (arithmetic (sort_of env.types x.type))

abbrev pub by_operator : ℕ → Option Arith → Value → Value → Elab Value
by_operator at None v x = stored at v x
by_operator at (Some o) v x = update at o v x

-- of a place that is no class object
abbrev pub assignment : ℕ → AssignOp → Value → Value → Elab Value
assignment at o v x = by_operator at (updating o) v x

-- ---- commas

-- each in order; the last is the value, and the others are not read
abbrev pub last_of : Value → List Value → Value
last_of v [] = v
last_of v (x ∷ xs) = last_of x xs

abbrev pub in_order : Env → Value → List Value → List Node
in_order env v [] = v.node ∷ []
in_order env v (x ∷ xs) = unused env v ∷ in_order env x xs

abbrev pub sequence : ℕ → List Value → Elab Value
sequence at [] = breaks 18 at
sequence at (v ∷ vs) =
    known >>= (λ env. gives (record (last_of v vs) { at = at; node = node.Comma at (in_order env v vs); number = None; is_fixed = false }))
