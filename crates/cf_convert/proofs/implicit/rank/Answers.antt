use Rattle.std.proofs.Common.{arith}
use Rattle.cf_convert.proofs.Steps.{rank_some}
use Rattle.cf_convert.proofs.implicit.rank.Goals as goal

pub loop-step-init : goal.loop-step-init
loop-step-init c = let h = rank_some c.args.steps.now in (omega arith, omega arith)
