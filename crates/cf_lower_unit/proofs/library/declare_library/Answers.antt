use Rattle.cc_whole.specs.Plain.{items_of}
use Rattle.cf_lower_unit.proofs.Joined.{three_declared}
use Rattle.cf_lower_unit.proofs.library.declare_library.Goals as goal

pub returns : goal.returns
returns c =
    three_declared c.in_ok-letter.letter c.new-nothing.result c.in_ok-status.status (items_of c.args.made.now) (items_of c.declare.new.made)
    (items_of c.declare-2.new.made) (items_of c.declare-3.new.made) c.in_ok-letter.ensures c.new-nothing.ensures c.in_ok-status.ensures c.in_ok-declare.ensures
    c.in_ok-declare-2.ensures c.in_ok-declare-3.ensures
