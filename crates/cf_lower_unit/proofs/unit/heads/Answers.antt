use Rattle.cc_whole.specs.Plain.{items_of}
use Rattle.cf_lower_unit.proofs.Joined.{two_parts}
use Rattle.cf_lower_unit.proofs.unit.heads.Goals as goal

pub returns : goal.returns
returns c =
    two_parts c.new-made.result _ _ (items_of c.declare_library.new.made) (items_of c.declare_functions.new.made) c.new-made.ensures c.in_ok-declare_library.ensures
    c.in_ok-declare_functions.ensures
