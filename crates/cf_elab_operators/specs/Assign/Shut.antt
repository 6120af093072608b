-- The rows of assignments, each under a name of its own that does not unfold. `Rattle.cf_elab_operators.proofs.AssignLaws` says what each is.
use Rattle.std.specs.Prelude.{ℕ, Bool, Some}
use Rattle.cf_base.specs.declared.arith.Arith.{Arith}
use Rattle.cf_base.specs.declared.kind.Kind.{Kind}
use Rattle.cf_base.specs.Promotion.{promoted}
use Rattle.cf_core.specs.declared.node.Change.TheVariants as change
use Rattle.cf_syntax.specs.declared.operator.AssignOp.{AssignOp}
use Rattle.cf_elab.specs.Answer.{Elab, ◌>>=◌, known}
use Rattle.cf_elab.specs.Choice as choice
use Rattle.cf_elab.specs.Fit.{to_kind}
use Rattle.cf_elab.specs.Operand.{Value, sort_of, arithmetic}

-- `=`
unfoldable pub stored : ℕ → Value → Value → Elab Value
stored = choice.stored

-- ---- `op=`, by the type of the place and the promoted type of the value

-- a place of an integer type
unfoldable pub of_integer : ℕ → Arith → Value → Kind → Value → Kind → Elab Value
of_integer at o v k x l = do
  a ← to_kind (choice.operand_kind o (promoted k) l) x
  choice.updated at v (change.Arithmetic o (choice.operator_kind o (promoted k) l) k) a

-- a pointer to an object of this type, forwards or back, or by any operator
unfoldable pub moved : ℕ → Bool → Value → ℕ → Value → Kind → Elab Value
moved at back v t x l = choice.moved_pointer at v t l x (Some back)

unfoldable pub of_pointer : ℕ → Arith → Value → ℕ → Value → Kind → Elab Value
of_pointer at o v t x l = choice.moved_pointer at v t l x (choice.moves o)

-- types that no compound operator combines
unfoldable pub not_combined : ℕ → Arith → Value → Value → Elab Value
not_combined = choice.not_combined

unfoldable pub by_place : ℕ → Arith → Value → Value → Kind → Elab Value
by_place at o v x l = known >>= (λ env. choice.combined at o v x (sort_of env.types v.type) (arithmetic (sort_of env.types v.type)) (Some l))

-- a plain value
unfoldable pub combined : ℕ → Arith → Value → Value → Elab Value
combined at o v x =
    known >>= (λ env. choice.combined at o v x (sort_of env.types v.type) (arithmetic (sort_of env.types v.type)) (arithmetic (sort_of env.types x.type)))

unfoldable pub update : ℕ → Arith → Value → Value → Elab Value
update = choice.update

-- ---- each of them

unfoldable pub assignment : ℕ → AssignOp → Value → Value → Elab Value
assignment = choice.assignment
