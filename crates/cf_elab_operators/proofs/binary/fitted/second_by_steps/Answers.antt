use Rattle.cf_elab_operators.proofs.BinaryLaws.FittedLaws.{steps_after}
use Rattle.cf_elab_operators.proofs.binary.fitted.second_by_steps.Goals as goal

pub convert-requires-clause-steps : goal.convert-requires-clause-steps
convert-requires-clause-steps c =
    steps_after c.args.env.now c.fit.new.env c.args.y c.args.to _ c.holds.ensures c.holds-2.ensures c.in_ok-a.ensures.grows c.requires.y_known c.requires.to_known c.requires.steps
