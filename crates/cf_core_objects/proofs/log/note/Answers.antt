use Rattle.std.proofs.Common.{◌∙◌, List, Option, ap, subst}
use Rattle.cf_core.specs.Places.{Route}
use Rattle.cf_core.specs.Store.{Value}
use Rattle.cf_core_objects.specs.declared.object.Held.{Held}
use Rattle.cf_core_objects.specs.declared.object.Held.TheVariants as held
use Rattle.cf_core_objects.specs.Log.{logged, IsValue}
use Rattle.cf_core_objects.proofs.LogLaws.{logged-push, replaced-there}
use Rattle.cf_core_objects.proofs.log.note.Goals as goal

pub returns-in_ok-push-in-None : goal.returns-in_ok-push-in-None
returns-in_ok-push-in-None c = λ t old π.
    ap (λ l. logged t old l π) c.in_ok-push-in-None.ensures.items
    ∙ ap (λ (f : Route → Option Value). f π) (logged-push t old c.args.log.now.items (held.Value c.args.part c.args.value))

pub returns-in-Some : goal.returns-in-Some
returns-in-Some c = λ t old π.
    replaced-there t old c.args.log.now.items c.args.part c.in-Some.number c.args.value
    (subst (λ (l : List Held). IsValue l c.args.part c.in-Some.number) c.deref.ensures.value c.in-Some.ensures) π
