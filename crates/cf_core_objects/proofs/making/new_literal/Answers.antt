use Rattle.std.proofs.Common.{◌≡◌, length, refl, rules}
use Rattle.cf_core_objects.specs.declared.object.Objects.{Objects}
use Rattle.cf_core_objects.specs.Store.{state_of}
use Rattle.cf_core_objects.proofs.ThenLaws.{told-ok, told-err}
use Rattle.cf_core_objects.proofs.MadeLaws.{text-goes, text-stops}
use Rattle.cf_core_objects.proofs.making.new_literal.Goals as goal

pub returns-in-Err-born : goal.returns-in-Err-born
returns-in-Err-born c = λ T e w.
    let n : c.in-Ok.count ≡ length c.args.bytes.now = search rules in
    text-stops T e c.args.objects.now c.args.number c.in-Ok.count c.args.function c.args.bytes c.in-Err-born.stop w n
    (told-err (λ o. o) c.born.result c.in-Err-born.stop (state_of T e c.born.new.objects) w _ c.in-Err-born.is (c.born.ensures T e w))

pub returns-in_ok-push-in-Ok-born : goal.returns-in_ok-push-in-Ok-born
returns-in_ok-push-in-Ok-born c = λ T e w.
    let y = c.born.new.objects in
    let new : Objects = record { alloc = y.alloc; cells = y.cells; literals = c.push.new.self; reached = y.reached } in
    let n : c.in-Ok.count ≡ length c.args.bytes.now = search rules in
    text-goes T e c.args.objects.now y new c.args.number c.in-Ok-born.object c.in-Ok.count c.args.function c.args.bytes w n
    (told-ok (λ o. o) c.born.result c.in-Ok-born.object (state_of T e y) w _ c.in-Ok-born.is (c.born.ensures T e w)) refl refl c.in_ok-push-in-Ok-born.ensures.items
