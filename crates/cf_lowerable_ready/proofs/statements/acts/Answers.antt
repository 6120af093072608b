use Rattle.cf_lowerable_ready.specs.Contents.{known}
use Rattle.cf_lowerable_ready.specs.Scenes.{action_in, knowing, locals_in, result_in}
use Rattle.cf_lowerable_ready.proofs.StepLaws.{acts_so}
use Rattle.cf_lowerable_ready.proofs.statements.acts.Goals as goal

pub returns-in-Ok : goal.returns-in-Ok
returns-in-Ok c =
    let x = c.args.x.now in
    acts_so (locals_in x) (result_in x) (knowing x c.args.cs.now) (action_in x c.args.a.now) (known x.tables.now c.in-Ok.content) c.is_set.result c.in-Ok.ensures
    (c.is_set.ensures x.tables.now)
