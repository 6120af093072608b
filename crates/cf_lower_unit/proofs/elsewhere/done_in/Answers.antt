use Rattle.cf_lower_unit.proofs.Others.{done_is}
use Rattle.cf_lower_unit.proofs.elsewhere.done_in.Goals as goal

pub returns : goal.returns
returns c =
    done_is c.args.tables.now c.new-all.result.items c.add_done.new.out.items c.add_started.new.out.items _ _ c.new-all.ensures.items c.in_ok-add_done.ensures
    c.in_ok-add_started.ensures
