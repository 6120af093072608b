use Rattle.cf_elab_valid_files.proofs.FileLaws.Units.{file-law}
use Rattle.cf_elab_valid_files.proofs.file.laws.files_are_valid.Goals as goal

pub returns : goal.returns
returns c = λ apart extent u b fits end run finished. file-law apart extent u b fits end run finished
