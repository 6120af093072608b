use Rattle.cc_whole_sizes.proofs.Fitting.{valid_fit}
use Rattle.cc_whole_sizes.proofs.sizes_of_valid_items_fit.Goals as goal

pub returns : goal.returns
returns c = valid_fit
