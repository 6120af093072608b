use Rattle.cf_core_sound.proofs.Turning.{does-well}
use Rattle.cf_core_sound.proofs.statements_are_sound.Goals as goal

pub returns : goal.returns
returns c = does-well
