use Rattle.cc_whole_read_items.proofs.WholeLaws.{second_told}
use Rattle.cc_whole_read_items.proofs.tokens.refusal.Goals as goal

pub returns : goal.returns
returns c = rw c.told.ensures (second_told c.args.tokens.now c.once-second.result c.requires c.once-second.ensures)
