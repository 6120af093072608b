use Rattle.cf_elab_valid_files.proofs.FileLaws.Units.{finished-law}
use Rattle.cf_elab_valid_files.proofs.FilesLaws.Initialisers.{constants-apart}
use Rattle.cf_elab_valid_files.proofs.files.laws.finished_files_are_valid.Goals as goal

pub returns : goal.returns
returns c = λ extent u b fits end run table told. finished-law constants-apart extent u b fits end run table told
