use Rattle.std.proofs.Common.{◌∙◌, ◌<◌, refl, sym, subst, rules}
use Rattle.cf_base.specs.World.{Ran}
use Rattle.cf_core.specs.Run.{Did, ◌>>◌, gives, declared_object, frame_changed, lists_local}
use Rattle.cf_run_tree.specs.Tree.{list_of, arrays, shape_type}
use Rattle.cf_core_objects.specs.declared.object.Entered.{Entered}
use Rattle.cf_core_objects.specs.Answer.{Stopped}
use Rattle.cf_core_objects.specs.Store.{state_of}
use Rattle.cf_core_objects.proofs.AccessLaws.{err-then, ok-then}
use Rattle.cf_core_objects.proofs.MadeLaws.{local-as, local-listed}
use Rattle.cf_core_objects.proofs.making.bounded_local.Goals as goal

pub returns-in-Err : goal.returns-in-Err
returns-in-Err c = λ T w.
    let e = c.args.entered.now in
    let lt : c.args.number < e.count = search rules in
    let ty = arrays (list_of c.args.bounds) (shape_type T c.args.shape) in
    subst (λ (r : Ran (Did _)). Stopped c.in-Err.stop w r) (sym (local-as T e c.args.objects.now c.args.number ty w lt))
    (err-then (λ o. o) c.born.result c.in-Err.stop (state_of T e c.args.objects.now) (state_of T e c.born.new.objects) w (declared_object ty)
    (λ o. frame_changed (lists_local c.args.number o) >> gives o) c.in-Err.is (c.born.ensures T e w))

pub returns-in_ok-list_local-in-Ok : goal.returns-in_ok-list_local-in-Ok
returns-in_ok-list_local-in-Ok c = λ T w.
    let e = c.args.entered.now in
    let o = c.in-Ok.object in
    let lt : c.args.number < e.count = search rules in
    let ty = arrays (list_of c.args.bounds) (shape_type T c.args.shape) in
    let new : Entered = record { name = e.name; depth = e.depth; count = e.count; locals = c.list_local.new.locals; scope = e.scope; temporaries = e.temporaries } in
    local-as T e c.args.objects.now c.args.number ty w lt
    ∙ ok-then (λ o. o) c.born.result o (state_of T e c.args.objects.now) (state_of T e c.born.new.objects) w (declared_object ty)
    (λ o. frame_changed (lists_local c.args.number o) >> gives o) c.in-Ok.is (c.born.ensures T e w)
    ∙ local-listed T e new c.born.new.objects c.args.number o w c.in_ok-list_local-in-Ok.ensures refl refl refl refl refl
