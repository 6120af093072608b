use Rattle.cf_lowerable_ready.specs.Contents.{known}
use Rattle.cf_lowerable_ready.specs.Scenes.{knowing, locals_in, result_in}
use Rattle.cf_lowerable_ready.proofs.StepLaws.{give_goes}
use Rattle.cf_lowerable_ready.proofs.statements.gives.Goals as goal

pub returns-in_ok-good-in-Some : goal.returns-in_ok-good-in-Some
returns-in_ok-good-in-Some c =
    let x = c.args.x.now in
    give_goes (locals_in x) (result_in x) (knowing x c.args.cs.now) c.args.register _ (known x.tables.now c.held-content.result) c.in_ok-good-in-Some.good c.in-Some.is c.held-content.ensures c.in_ok-good-in-Some.ensures
