use Rattle.cf_core_sound.proofs.Values.{value-well}
use Rattle.cf_core_sound.proofs.values_are_sound.Goals as goal

pub returns : goal.returns
returns c = value-well
