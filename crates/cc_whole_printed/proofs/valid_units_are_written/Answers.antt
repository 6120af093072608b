use Rattle.cc_whole_printed.proofs.ValidUnits.{valid_is_written}
use Rattle.cc_whole_printed.proofs.valid_units_are_written.Goals as goal

pub returns : goal.returns
returns c = valid_is_written
