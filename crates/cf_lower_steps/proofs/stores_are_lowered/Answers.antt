use Rattle.cf_lower_steps.specs.Lowering.{falls_only}
use Rattle.cf_lower_steps.proofs.Lowered.{store-lowered}
use Rattle.cf_lower_steps.proofs.stores_are_lowered.Goals as goal

pub returns : goal.returns
returns c P function signature own scope F kept g s t w b below again go helps p helper depth x =
    store-lowered P function signature own scope F kept g s t w b below again go helps p helper depth x falls_only
