use Rattle.cf_lowerable_ready.specs.Contents.{known}
use Rattle.cf_lowerable_ready.specs.Scenes.{action_in, knowing, locals_in, result_in}
use Rattle.cf_lowerable_ready.proofs.StepLaws.{gives_none, gives_kept}
use Rattle.cf_lowerable_ready.proofs.statements.given.Goals as goal

pub returns-then-not-ready : goal.returns-then-not-ready
returns-then-not-ready c =
    let x = c.args.x.now in
    gives_none (locals_in x) (result_in x) (knowing x c.args.cs.now) (action_in x c.args.a.now) c.in_ok-ready.ready c.in_ok-ready.ensures c.if-not-ready.true

pub returns : goal.returns
returns c =
    let x = c.args.x.now in
    gives_kept (locals_in x) (result_in x) (knowing x c.args.cs.now) (action_in x c.args.a.now) c.in_ok-ready.ready (known x.tables.now c.in_ok-content.content) c.in_ok-ready.ensures
    c.if-not-ready.false c.in_ok-content.ensures
