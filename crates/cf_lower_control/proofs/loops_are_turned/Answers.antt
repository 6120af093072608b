use Rattle.cf_lower_control.proofs.Lowered.{loop-around}
use Rattle.cf_lower_control.proofs.loops_are_turned.Goals as goal

pub returns : goal.returns
returns c at h grown helped ss around next each = loop-around at h grown helped ss around next each
