use Rattle.cf_elab_finished.proofs.Ends.{valid_is}
use Rattle.cf_elab_finished.proofs.finished.check_valid.Goals as goal

pub returns : goal.returns
returns c = valid_is c.finished_files_are_valid.ensures c.args.unit.now c.args.end.now c.requires.ends c.holds.ensures.table c.requires.right
