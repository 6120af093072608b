-- Unary operators, ++ and --, sizeof, subscripts (5.2.1, 5.2.5, 5.3).
use Rattle.std.specs.Prelude.{ℕ, Bool, true, false, ◌&&◌, not, if◌then◌else◌, pos, Option, None, Some, is_some}
use Rattle.cf_base.specs.declared.kind.Kind.{Kind}
use Rattle.cf_base.specs.declared.arith.Arith.TheVariants as op
use Rattle.cf_base.specs.Promotion.{promoted}
use Rattle.cf_convert.specs.Constness.{bare, is_const}
use Rattle.cf_syntax.specs.declared.operator.PrefixOp.{PrefixOp}
use Rattle.cf_syntax.specs.declared.operator.PrefixOp.TheVariants as prefix
use Rattle.cf_syntax.specs.declared.operator.StepOp.{StepOp}
use Rattle.cf_syntax.specs.declared.operator.StepOp.TheVariants as step
use Rattle.cf_core.specs.declared.node.Change.{Change}
use Rattle.cf_core.specs.declared.node.Change.TheVariants as change
use Rattle.cf_core.specs.declared.node.Core.TheVariants as node
use Rattle.cf_elab.specs.Env.{Env}
use Rattle.cf_elab.specs.Answer.{Elab, ◌>>=◌, ◌>>◌, gives, done, breaks, need, known}
use Rattle.cf_elab.specs.Made.{pointer_to, unsigned_int}
use Rattle.cf_elab.specs.Operand.{Value, computed, constant, place_of, plain, Sort, sort_of, arithmetic, is_function, is_array, is_void, integral, object_pointer, void_pointer, function_pointer, reference_sort}
use Rattle.cf_elab.specs.Fit.{to_kind}
use Rattle.cf_elab.specs.Arithmetic.{negated, complemented, negation}
use Rattle.cf_elab.specs.Complete.{complete, bytes_of}

-- ---- what may be changed

-- an lvalue that is neither const nor an array nor a function (3.7)
abbrev pub modifiable : Env → Value → Bool
modifiable env v =
    v.is_lvalue && not (is_const env.types v.type) && not (is_array (sort_of env.types v.type)) && not (is_function (sort_of env.types v.type))

abbrev pub need_modifiable : ℕ → Value → Elab (Unit {0})
need_modifiable at v = known >>= (λ env. need (modifiable env v) 12 at)

-- ---- ++ and --

-- whether it goes back, and the operator
abbrev pub goes_back : StepOp → Bool
goes_back step.Increment = false
goes_back step.Decrement = true

-- of an integer or a pointer to an object; an enumeration is none (5.2.5)
abbrev pub step_change : StepOp → Sort → Option Change
step_change s (integral k) = Some (change.Arithmetic (if goes_back s then op.Subtract else op.Add) (promoted k) k)
step_change s (object_pointer t) = Some (change.Moved (goes_back s))
step_change s other = None

-- behind the operand the value before is given, and before it the operand itself
abbrev pub stepped_value : ℕ → Bool → Change → Value → ℕ → Value
stepped_value at true c v t = computed at (node.Increment at true c v.node) t
stepped_value at false c v t = place_of at (node.Increment at false c v.node) v.type false

abbrev pub changed_by : ℕ → Bool → Value → Option Change → Elab Value
changed_by at is_postfix v None = breaks 18 at
changed_by at is_postfix v (Some c) = known >>= (λ env. gives (stepped_value at is_postfix c v (bare env.types v.type)))

abbrev pub element_complete : ℕ → Sort → Elab (Unit {0})
element_complete at (object_pointer t) = known >>= (λ env. need (complete env t) 30 at)
element_complete at other = done

-- K12, then arithmetic or a pointer to an object K18
abbrev pub increment : ℕ → StepOp → Bool → Value → Elab Value
increment at s is_postfix v = do
  need_modifiable at v
  env ← known
  r ← changed_by at is_postfix v (step_change s (sort_of env.types v.type))
  element_complete at (sort_of env.types v.type)
  gives r

-- ---- * & + - ~ !

-- the object or function that a pointer leads to
abbrev pub dereferenced : ℕ → Value → Sort → Elab Value
dereferenced at p (object_pointer t) = gives (place_of at (node.Dereference at p.node) t p.is_fixed)
dereferenced at p (function_pointer t) = gives (place_of at (node.Dereference at p.node) t p.is_fixed)
dereferenced at p other = breaks 18 at

-- a pointer to an lvalue
abbrev pub address_of : ℕ → Value → Elab Value
address_of at v = do
  need v.is_lvalue 12 at
  t ← pointer_to v.type
  gives (record (computed at (node.Address at v.node) t) { is_fixed = v.is_fixed })

-- + takes a pointer too, which stays what it is but stands at the operator
abbrev pub promoted_or_pointer : ℕ → Value → Sort → Option Kind → Elab Value
promoted_or_pointer at x s (Some k) = to_kind k x
promoted_or_pointer at x (object_pointer t) None = gives x
promoted_or_pointer at x void_pointer None = gives x
promoted_or_pointer at x (function_pointer t) None = gives x
promoted_or_pointer at x s None = breaks 18 at

abbrev pub of_integer : ℕ → (ℕ → Kind → Value → Elab Value) → Value → Option Kind → Elab Value
of_integer at make x None = breaks 18 at
of_integer at make x (Some k) = make at k x

abbrev pub on_plain : Value → (Value → Sort → Elab Value) → Elab Value
on_plain v go = do
  x ← plain v
  env ← known
  go x (sort_of env.types x.type)

-- of an operand that is no class object
abbrev pub prefixed : ℕ → PrefixOp → Value → Elab Value
prefixed at prefix.Dereference v = on_plain v (dereferenced at)
prefixed at prefix.AddressOf v = address_of at v
prefixed at prefix.Plus v = on_plain v (λ x s. promoted_or_pointer at (record x { at = at }) s (arithmetic s))
prefixed at prefix.Minus v = on_plain v (λ x s. of_integer at negated x (arithmetic s))
prefixed at prefix.Complement v = on_plain v (λ x s. of_integer at complemented x (arithmetic s))
prefixed at prefix.Not v = negation at v

-- ---- subscripts

abbrev pub element_of : ℕ → ℕ → Bool → Value → Value → Elab Value
element_of at t fixed x y = do
  env ← known
  need (complete env t) 30 at
  gives (place_of at (node.Index at x.node y.node) t fixed)

-- a pointer to an object and an integer, in either order, else K18
abbrev pub indexed : ℕ → Value → Value → Sort → Sort → Option Kind → Option Kind → Elab Value
indexed at x y (object_pointer t) s None (Some k) = do
  i ← to_kind k y
  element_of at t (x.is_fixed && is_some i.number) x i
indexed at x y s (object_pointer t) (Some k) None = do
  i ← to_kind k x
  element_of at t (y.is_fixed && is_some i.number) i y
indexed at x y s r a b = breaks 18 at

abbrev pub subscript : ℕ → Value → Value → Elab Value
subscript at x y = do
  a ← plain x
  b ← plain y
  env ← known
  indexed at a b (sort_of env.types a.type) (sort_of env.types b.type) (arithmetic (sort_of env.types a.type)) (arithmetic (sort_of env.types b.type))

-- ---- sizeof

abbrev pub is_unsized : Sort → Bool
is_unsized s = elim (is_function s) [ true ↦ true | false ↦ is_void s ]

-- K18; K30; the bytes of a type, as an unsigned int
abbrev pub size_of_object : ℕ → ℕ → Elab Value
size_of_object at t = do
  env ← known
  need (not (is_unsized (sort_of env.types t))) 18 at
  need (complete env t) 30 at
  u ← unsigned_int
  gives (constant at (pos (bytes_of env t)) u)

-- a reference counts as what it refers to (5.3.2)
abbrev pub referred_type : ℕ → Sort → ℕ
referred_type t (reference_sort u) = u
referred_type t s = t

abbrev pub size_constant : ℕ → ℕ → Elab Value
size_constant at t = known >>= (λ env. size_of_object at (referred_type t (sort_of env.types t)))
