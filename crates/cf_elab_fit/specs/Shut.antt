-- The rows that this crate does, each under a name of its own that does not unfold. `Rattle.cf_elab_fit.proofs.Opened` says what each is.
use Rattle.std.specs.Prelude.{ℕ, List}
use Rattle.cf_base.specs.declared.kind.Kind.{Kind}
use Rattle.cf_convert.specs.declared.conv.ConvStep.{ConvStep}
use Rattle.cf_elab.specs.Answer.{Elab}
use Rattle.cf_elab.specs.Operand as operand
use Rattle.cf_elab.specs.Operand.{Value}
use Rattle.cf_elab.specs.Fit as standard
use Rattle.cf_elab.specs.UserFit as user
use Rattle.cf_elab.specs.ClassOperand as object

-- an array or a function as a pointer to this type
unfoldable pub decayed : Value → ℕ → Elab Value
decayed = operand.decayed

unfoldable pub plain : Value → Elab Value
plain = operand.plain

-- one step on the way to a type, and all of them
unfoldable pub stepped : ℕ → ConvStep → Value → Elab Value
stepped = standard.stepped

unfoldable pub all_steps : ℕ → List ConvStep → Value → Elab Value
all_steps = standard.all_steps

unfoldable pub converted : ℕ → ℕ → List ConvStep → Value → Elab Value
converted = standard.converted

-- by standard conversions alone, and also by a user's function
unfoldable pub fit : ℕ → Value → ℕ → Elab Value
fit = standard.fit

unfoldable pub user_fit : ℕ → Value → ℕ → Elab Value
user_fit = user.fit

unfoldable pub to_kind : Kind → Value → Elab Value
to_kind = standard.to_kind

-- of a value that is no class object, and of any
unfoldable pub truth : ℕ → ℕ → Value → Elab Value
truth = standard.truth

unfoldable pub user_truth : ℕ → ℕ → Value → Elab Value
user_truth = object.truth
