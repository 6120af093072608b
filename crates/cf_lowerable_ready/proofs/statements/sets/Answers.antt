use Rattle.cf_lowerable_ready.specs.Contents.{known}
use Rattle.cf_lowerable_ready.specs.Scenes.{action_in, knowing, locals_in, result_in}
use Rattle.cf_lowerable_ready.proofs.StepLaws.{sets_so}
use Rattle.cf_lowerable_ready.proofs.statements.sets.Goals as goal

pub returns-in_ok-good-in-Ok : goal.returns-in_ok-good-in-Ok
returns-in_ok-good-in-Ok c =
    let x = c.args.x.now in
    sets_so (locals_in x) (result_in x) (knowing x c.args.cs.now) (knowing x c.keeps.new.cs) c.args.register (action_in x c.args.a.now) (known x.tables.now c.in-Ok.content)
    c.in_ok-good-in-Ok.good c.in-Ok.ensures (c.in_ok-good-in-Ok.ensures x.tables.now)
