use Rattle.cf_lower_control.specs.Loops.{ways_of}
use Rattle.cf_lower_steps.specs.Moment.{fixed}
use Rattle.cf_lower_control.proofs.Leaving.{leave-lowered, continue-lowered}
use Rattle.cf_lower_control.proofs.loops_are_left.Goals as goal

pub returns : goal.returns
returns c = record {
  leave = λ at h E grows outer less around e. leave-lowered at h E grows outer less (ways_of (fixed at) at.own at.scope around) e;
  next = λ at h E grows outer less around e. continue-lowered at h E grows outer less (ways_of (fixed at) at.own at.scope around) e;
}
