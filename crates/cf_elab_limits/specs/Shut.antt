-- The limit on the sizes of types, under names that do not unfold. `Rattle.cf_elab_limits.proofs` says what each is.
use Rattle.std.specs.Prelude.{ℕ}
use Rattle.cf_elab.specs.Answer.{Elab}
use Rattle.cf_elab.specs.Complete as complete

unfoldable pub type_within : ℕ → Elab (Unit {0})
type_within = complete.type_within

-- all types that were made since the table had so many
unfoldable pub types_within : ℕ → Elab (Unit {0})
types_within = complete.types_within
