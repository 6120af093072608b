use Rattle.std.proofs.Common.{◌∙◌, ap}
use Rattle.cf_core.specs.Places.{Route}
use Rattle.cf_core.specs.Store.{Value}
use Rattle.std.specs.Prelude.{Option}
use Rattle.cf_core_objects.specs.declared.object.Held.TheVariants as held
use Rattle.cf_core_objects.specs.Log.{logged}
use Rattle.cf_core_objects.proofs.LogLaws.{logged-push}
use Rattle.cf_core_objects.proofs.log.note_zeros.Goals as goal

pub returns : goal.returns
returns c = λ t old π.
    ap (λ l. logged t old l π) c.in_ok-push.ensures.items
    ∙ ap (λ (f : Route → Option Value). f π) (logged-push t old c.args.log.now.items (held.Zeros c.args.part))
