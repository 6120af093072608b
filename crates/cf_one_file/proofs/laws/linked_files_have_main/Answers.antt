use Rattle.cf_one_file.proofs.Mains.{linked-main}
use Rattle.cf_one_file.proofs.laws.linked_files_have_main.Goals as goal

pub returns : goal.returns
returns c = linked-main
