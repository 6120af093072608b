use Rattle.cc_whole_printed.proofs.Units.{printed_unit}
use Rattle.cc_whole_printed.proofs.printed_text_is_its_text.Goals as goal

pub returns : goal.returns
returns c = printed_unit
