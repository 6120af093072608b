use Rattle.cf_core_sound.proofs.Main.{whole-sound}
use Rattle.cf_file_sound.proofs.Meaning.{one-file}
use Rattle.cf_file_sound.proofs.one_file_is_sound.Goals as goal

pub returns : goal.returns
returns c = one-file whole-sound
