use Rattle.cf_elab_fit.proofs.Stepped.{no_more_steps}
use Rattle.cf_elab_fit.proofs.step.+all_steps.Goals as goal

pub returns-in-None-clause-made : goal.returns-in-None-clause-made
returns-in-None-clause-made t c = no_more_steps c.args.to c.args.steps.now c.args.value c.with_type.result c.args.env.now c.in-None.ensures.cases c.with_type.ensures
