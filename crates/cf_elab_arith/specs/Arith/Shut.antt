-- The rows of operators on integers, each under a name of its own that does not unfold. `Rattle.cf_elab_arith.proofs.ArithLaws.StepLaws` says what each is.
use Rattle.std.specs.Prelude.{ℕ, ℤ, Option}
use Rattle.cf_base.specs.declared.kind.Kind.{Kind}
use Rattle.cf_base.specs.declared.arith.Arith.{Arith}
use Rattle.cf_core.specs.declared.node.Core.{Core as Node}
use Rattle.cf_elab.specs.Answer.{Elab, ◌>>=◌, gives}
use Rattle.cf_elab.specs.Made.{of_kind}
use Rattle.cf_elab.specs.Operand.{Value, computed}
use Rattle.cf_elab.specs.Arithmetic as arithmetic

-- a computed value of an integer type, with its number
unfoldable pub integer : ℕ → Node → Kind → Option ℤ → Elab Value
integer at n k number = do
  t ← of_kind k
  gives (record (computed at n t) { number = number })

unfoldable pub on_kinds : ℕ → Arith → Kind → Kind → Value → Value → Elab Value
on_kinds = arithmetic.on_kinds

unfoldable pub negated : ℕ → Kind → Value → Elab Value
negated = arithmetic.negated

unfoldable pub complemented : ℕ → Kind → Value → Elab Value
complemented = arithmetic.complemented

unfoldable pub negation : ℕ → Value → Elab Value
negation = arithmetic.negation

unfoldable pub conjunction : ℕ → Value → Value → Elab Value
conjunction = arithmetic.conjunction

unfoldable pub disjunction : ℕ → Value → Value → Elab Value
disjunction = arithmetic.disjunction
