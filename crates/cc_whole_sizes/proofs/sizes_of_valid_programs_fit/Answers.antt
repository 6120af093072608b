use Rattle.cc_whole.specs.Plain.{items_of}
use Rattle.cc_whole_sizes.proofs.Fitting.{program_items}
use Rattle.cc_whole_sizes.proofs.sizes_of_valid_programs_fit.Goals as goal

pub returns : goal.returns
returns c = λ program valid. c.sizes_of_valid_items_fit.ensures (items_of program.items) (program_items program valid)
