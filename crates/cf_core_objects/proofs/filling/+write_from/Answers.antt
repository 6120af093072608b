use Rattle.std.proofs.Common.{◌≡◌, ◌∙◌, ◌+◌, refl, sym, subst, ap}
use Rattle.cf_base.specs.World.{Ran}
use Rattle.cf_core.specs.Objects as objects
use Rattle.cf_core.specs.Run.{Did}
use Rattle.cf_core_place.specs.Routes.{row_place}
use Rattle.cf_core_objects.specs.Answer.{Told, Stopped}
use Rattle.cf_core_objects.specs.Store.{state_of}
use Rattle.cf_core_objects.specs.Then.{◌▷◌}
use Rattle.cf_core_objects.proofs.ThenLaws.{told-err, told-ok, stops-on}
use Rattle.cf_core_objects.proofs.MadeLaws.{byte-next}
use Rattle.cf_core_objects.proofs.filling.+write_from.Goals as goal

pub returns-in-Err : goal.returns-in-Err
returns-in-Err t c = λ T e w.
    subst (λ (x : Ran (Did (Unit {0}))). Stopped c.in-Err.stop w x)
    (sym (byte-next c.args.kind (row_place c.args.row) c.args.index (c.args.index + 1) c.in-Some.byte.now c.args.bytes.now c.in-Some.rest.now (state_of T e c.args.objects.now) w c.in-Some.ensures.cases.0 refl))
    (stops-on c.in-Err.stop _ (λ _. objects.write_bytes c.args.kind (row_place c.args.row) (c.args.index + 1) c.in-Some.rest.now) w
    (told-err (λ u. tt) c.write_byte.result c.in-Err.stop (state_of T e c.write_byte.new.objects) w _ c.in-Err.is (c.write_byte.ensures T e w)))

pub returns-in-Ok : goal.returns-in-Ok
returns-in-Ok t c = λ T e w.
    subst (λ (x : Ran (Did (Unit {0}))). Told (λ u. tt) c.write_from.result (state_of T e c.write_from.new.objects) w x)
    (sym (byte-next c.args.kind (row_place c.args.row) c.args.index (c.args.index + 1) c.in-Some.byte.now c.args.bytes.now c.in-Some.rest.now (state_of T e c.args.objects.now) w c.in-Some.ensures.cases.0 refl
    ∙ ap (λ r. r ▷ (λ _. objects.write_bytes c.args.kind (row_place c.args.row) (c.args.index + 1) c.in-Some.rest.now))
    (told-ok (λ u. tt) c.write_byte.result tt (state_of T e c.write_byte.new.objects) w _ c.in-Ok.is (c.write_byte.ensures T e w))))
    (c.write_from.ensures T e w)
