use Rattle.std.proofs.Common.{◌∙◌}
use Rattle.cf_core.specs.FromUnit.{file_of}
use Rattle.cf_sound.proofs.Soundness.{same_file}
use Rattle.cf_sound.proofs.files.file_is_sound.Goals as goal

pub returns : goal.returns
returns c = c.in_ok-sound.ensures ∙ same_file (file_of c.args.unit.now)
