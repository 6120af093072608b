use Rattle.std.proofs.Common.{◌∙◌}
use Rattle.cf_lowerable_ready.specs.Scenes.{knowing}
use Rattle.cf_lowerable_ready.proofs.ActionLaws.{done_is}
use Rattle.cf_lowerable_ready.proofs.given.kept_by.Goals as goal

pub returns-in_ok-made-in_default : goal.returns-in_ok-made-in_default
returns-in_ok-made-in_default c =
    let x = c.args.x.now in
    c.in_ok-made-in_default.ensures
    ∙ done_is x (knowing x c.args.cs.now) c.args.a.now c.in_default.not-Number c.in_default.not-Text c.in_default.not-Local c.in_default.not-Static c.in_default.not-Function c.in_default.not-Read
    c.in_default.not-Dereference c.in_default.not-Decay c.in_default.not-Index c.in_default.not-Convert c.in_default.not-FromVoid c.in_default.not-Operate
    c.in_default.not-Unary c.in_default.not-Truth c.in_default.not-Not c.in_default.not-PointerOperate c.in_default.not-Changed c.in_default.not-Declare
