-- The rows of unary operators and subscripts, each under a name of its own that does not unfold. `Rattle.cf_elab_arith.proofs.UnaryLaws` says what each is.
use Rattle.std.specs.Prelude.{ℕ, Bool, Option}
use Rattle.cf_base.specs.declared.kind.Kind.{Kind}
use Rattle.cf_core.specs.declared.node.Change.{Change}
use Rattle.cf_syntax.specs.declared.operator.PrefixOp.{PrefixOp}
use Rattle.cf_syntax.specs.declared.operator.StepOp.{StepOp}
use Rattle.cf_elab.specs.Answer.{Elab, ◌>>=◌, known, need}
use Rattle.cf_elab.specs.Arithmetic as integer
use Rattle.cf_elab.specs.Complete.{complete}
use Rattle.cf_elab.specs.Fit.{to_kind}
use Rattle.cf_elab.specs.Operand.{Value, Sort, sort_of, arithmetic}
use Rattle.cf_elab.specs.Unary as unary
use Rattle.cf_elab_arith.specs.Unary.Fixed.{stays_fixed}

unfoldable pub need_modifiable : ℕ → Value → Elab (Unit {0})
need_modifiable = unary.need_modifiable

-- no object of the type holds a class that is not defined, else K30 (9.1)
unfoldable pub need_complete : ℕ → ℕ → Elab (Unit {0})
need_complete at t = known >>= (λ env. need (complete env t) 30 at)

-- ---- ++ and --

unfoldable pub changed_by : ℕ → Bool → Value → Option Change → Elab Value
changed_by = unary.changed_by

unfoldable pub element_complete : ℕ → Sort → Elab (Unit {0})
element_complete = unary.element_complete

unfoldable pub increment : ℕ → StepOp → Bool → Value → Elab Value
increment = unary.increment

-- ---- operators before a plain operand, by its type

unfoldable pub dereferenced : ℕ → Value → Elab Value
dereferenced at p = known >>= (λ env. unary.dereferenced at p (sort_of env.types p.type))

unfoldable pub promoted_or_pointer : ℕ → Value → Elab Value
promoted_or_pointer at x = known >>= (λ env. unary.promoted_or_pointer at x (sort_of env.types x.type) (arithmetic (sort_of env.types x.type)))

unfoldable pub negated : ℕ → Value → Elab Value
negated at x = known >>= (λ env. unary.of_integer at integer.negated x (arithmetic (sort_of env.types x.type)))

unfoldable pub complemented : ℕ → Value → Elab Value
complemented at x = known >>= (λ env. unary.of_integer at integer.complemented x (arithmetic (sort_of env.types x.type)))

-- ---- operators before any operand

unfoldable pub address_of : ℕ → Value → Elab Value
address_of = unary.address_of

unfoldable pub prefixed : ℕ → PrefixOp → Value → Elab Value
prefixed = unary.prefixed

-- ---- subscripts

unfoldable pub element_of : ℕ → ℕ → Bool → Value → Value → Elab Value
element_of = unary.element_of

-- a pointer to an object of this type and an integer of this promoted type, in either order
unfoldable pub pointer_first : ℕ → ℕ → Value → Kind → Value → Elab Value
pointer_first at t x k y = do
  i ← to_kind k y
  unary.element_of at t (stays_fixed x i) x i

unfoldable pub integer_first : ℕ → ℕ → Kind → Value → Value → Elab Value
integer_first at t k x y = do
  i ← to_kind k x
  unary.element_of at t (stays_fixed y i) i y

-- of two plain values, by their types
unfoldable pub indexed : ℕ → Value → Value → Elab Value
indexed at x y =
    known >>= (λ env.
    unary.indexed at x y (sort_of env.types x.type) (sort_of env.types y.type) (arithmetic (sort_of env.types x.type)) (arithmetic (sort_of env.types y.type)))

unfoldable pub subscript : ℕ → Value → Value → Elab Value
subscript = unary.subscript
