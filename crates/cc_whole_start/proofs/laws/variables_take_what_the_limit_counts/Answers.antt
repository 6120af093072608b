use Rattle.cc_whole_start.proofs.RoomLaws.{first-bytes}
use Rattle.cc_whole_start.proofs.laws.variables_take_what_the_limit_counts.Goals as goal

pub returns : goal.returns
returns c = first-bytes
