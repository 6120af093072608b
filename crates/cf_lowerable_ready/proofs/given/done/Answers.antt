use Rattle.cf_lowerable_ready.specs.Contents.{known}
use Rattle.cf_lowerable_ready.specs.Scenes.{knowing}
use Rattle.cf_lowerable_ready.proofs.ActionLaws.{call_is, through_is}
use Rattle.cf_lowerable_ready.proofs.given.done.Goals as goal

pub returns-in-Call : goal.returns-in-Call
returns-in-Call c =
    let x = c.args.x.now in
    let g = knowing x c.args.cs.now in
    call_is x g c.args.a.now (known x.tables.now c.call_by_name.result) _ _ _ _ _ c.in-Call.is (c.call_by_name.ensures g)

pub returns-in_ok-made-in-PointerCall : goal.returns-in_ok-made-in-PointerCall
returns-in_ok-made-in-PointerCall c =
    let x = c.args.x.now in
    let g = knowing x c.args.cs.now in
    through_is x g c.args.a.now (known x.tables.now c.in_ok-made-in-PointerCall.made) _ _ _ _ _ c.in-PointerCall.is
    (λ is. c.in_ok-made-in-PointerCall.ensures g c.in-PointerCall.pointer is c.held-content.ensures)
