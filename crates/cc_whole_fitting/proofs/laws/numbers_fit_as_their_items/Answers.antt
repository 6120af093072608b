use Rattle.cc_whole_fitting.proofs.ItemRuns.{fits_as_items}
use Rattle.cc_whole_fitting.proofs.laws.numbers_fit_as_their_items.Goals as goal

pub returns : goal.returns
returns c = fits_as_items
