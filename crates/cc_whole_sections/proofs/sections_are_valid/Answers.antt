use Rattle.cc_whole_sections.proofs.Items.{sections-fine}
use Rattle.cc_whole_sections.proofs.sections_are_valid.Goals as goal

pub returns : goal.returns
returns c = sections-fine
