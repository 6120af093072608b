use Rattle.cf_stuck.specs.Members as spec
use Rattle.cf_stuck.proofs.whole_file.stuck.Goals as goal

pub returns : goal.returns
unfolding spec.file_spot
returns c = c.place.ensures
