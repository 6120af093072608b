use Rattle.cf_elab_valid_files.proofs.FilesLaws.Initialisers.{constants-apart}
use Rattle.cf_elab_valid_files.proofs.files.laws.constants_are_apart.Goals as goal

pub returns : goal.returns
returns c = constants-apart
