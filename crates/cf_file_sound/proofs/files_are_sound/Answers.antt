use Rattle.cf_file_sound.proofs.Files.{sound-files}
use Rattle.cf_file_sound.proofs.files_are_sound.Goals as goal

pub returns : goal.returns
returns c = sound-files
