use Rattle.cf_sequence_unit.proofs.Units.{built-file}
use Rattle.cf_one_file.proofs.laws.built_cores_have_built_files.Goals as goal

pub returns : goal.returns
returns c = built-file
