use Rattle.cc_whole.specs.Plain.{expression_of, switch_in_order}
use Rattle.cf_lower_stmt.specs.Steps.{written, written_items}
use Rattle.cf_lower_stmt.proofs.Loops.{head_is}
use Rattle.cf_lower_stmt.proofs.walk.stepped_head.Goals as goal

pub returns : goal.returns
returns c =
    head_is c.args.flag c.new-made.result c.new-left.result (expression_of c.in_ok-nothing.nothing) (switch_in_order (written_items c.args.items)) (written c.flag_set.new.code)
    (written c.put_switch.new.code) (written c.if_flag.new.code) (written c.put_way.new.code) c.new-made.ensures c.in_ok-flag_set.ensures c.in_ok-nothing.ensures
    c.in_ok-put_switch.ensures c.new-left.ensures c.in_ok-put_way.ensures c.in_ok-if_flag.ensures
