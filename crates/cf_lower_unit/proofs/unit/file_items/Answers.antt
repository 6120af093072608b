use Rattle.cc_whole.specs.Plain.{items_of}
use Rattle.cf_lower_unit.proofs.Joined.{all_are}
use Rattle.cf_lower_unit.proofs.unit.file_items.Goals as goal

pub returns : goal.returns
returns c =
    all_are c.args.tables.now c.args.functions.now c.args.statics.now (items_of c.in_ok-made.made) (items_of c.define_functions.new.made)
    (items_of c.define_starts.new.made) c.in_ok-made.ensures c.in_ok-define_functions.ensures c.in_ok-define_starts.ensures
