use Rattle.cc_whole_wide.proofs.InPlace.{in_place}
use Rattle.cc_whole_wide.proofs.laws.items_have_others_in_place.Goals as goal

pub returns : goal.returns
returns c = in_place
