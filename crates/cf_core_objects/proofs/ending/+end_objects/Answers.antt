use Rattle.std.proofs.Common.{◌∙◌, sym, subst, ap, reverse}
use Rattle.cf_base.specs.World.{Ran}
use Rattle.cf_core.specs.Run.{Did, object_changed, gone, for_all}
use Rattle.cf_core_objects.specs.Answer.{Told, Stopped}
use Rattle.cf_core_objects.specs.Store.{state_of}
use Rattle.cf_core_objects.specs.Then.{◌▷◌}
use Rattle.cf_core_objects.proofs.ThenLaws.{told-err, told-ok, stops-on}
use Rattle.cf_core_objects.proofs.MadeLaws.{last-first}
use Rattle.cf_core_objects.proofs.ending.+end_objects.Goals as goal

pub returns-in-Err : goal.returns-in-Err
returns-in-Err t c = λ T e w.
    subst (λ (x : Ran (Did (Unit {0}))). Stopped c.in-Err.stop w x)
    (sym (last-first c.args.list.now c.in-Some.rest.now c.in-Some.last.now (λ o. object_changed o gone) (state_of T e c.args.objects.now) w c.in-Some.ensures.cases.0))
    (stops-on c.in-Err.stop _ (λ u. for_all (reverse c.in-Some.rest.now) (λ o. object_changed o gone)) w
    (told-err (λ u. tt) c.end_object.result c.in-Err.stop (state_of T e c.end_object.new.objects) w _ c.in-Err.is (c.end_object.ensures T e w)))

pub returns-in-Ok : goal.returns-in-Ok
returns-in-Ok t c = λ T e w.
    subst (λ (x : Ran (Did (Unit {0}))). Told (λ u. tt) c.end_objects.result (state_of T e c.end_objects.new.objects) w x)
    (sym (last-first c.args.list.now c.in-Some.rest.now c.in-Some.last.now (λ o. object_changed o gone) (state_of T e c.args.objects.now) w c.in-Some.ensures.cases.0
    ∙ ap (λ r. r ▷ (λ u. for_all (reverse c.in-Some.rest.now) (λ o. object_changed o gone)))
    (told-ok (λ u. tt) c.end_object.result tt (state_of T e c.end_object.new.objects) w _ c.in-Ok.is (c.end_object.ensures T e w))))
    (c.end_objects.ensures T e w)
