use Rattle.cf_core_sound.proofs.Main.{whole-sound}
use Rattle.cf_core_sound.proofs.programs_are_sound.Goals as goal

pub returns : goal.returns
returns c = whole-sound
