use Rattle.cf_core_run.proofs.Laws.{nil}
use Rattle.cf_core_run.proofs.state.Machine.pass.Goals as goal

pub pass_none-requires : goal.pass_none-requires
pass_none-requires c = nil c.args.calling.params.now c.in-None.ensures.cases

pub returns-in-Some-clause-comes : goal.returns-in-Some-clause-comes
returns-in-Some-clause-comes c = c.pass_one.ensures.comes c.args.program.now
