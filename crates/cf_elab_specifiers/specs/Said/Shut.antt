-- The rows of specifiers, each under a name of its own that does not unfold. `Rattle.cf_elab_specifiers.proofs.SaidLaws` says what each is.
use Rattle.std.specs.Prelude.{ℕ, if◌then◌else◌, Option, None, Some}
use Rattle.cf_elab.specs.Answer.{Elab, gives}
use Rattle.cf_elab.specs.Made.{void, of_kind}
use Rattle.cf_elab.specs.Specifiers as spec
use Rattle.cf_elab.specs.Specifiers.{Basics, Gathered, basic_kind}

abbrev pub of_named : Basics → Option ℕ → Elab ℕ
of_named b (Some t) = gives t
of_named b None = if b.voids then void else of_kind (basic_kind b)

-- without the `const` among them
unfoldable pub named_or_basic : Gathered → Elab ℕ
named_or_basic g = of_named g.basics g.named

unfoldable pub base_type : Gathered → Elab ℕ
base_type = spec.base_type
