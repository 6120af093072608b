use Rattle.cc_whole_locals.proofs.Blocks.{ended-gone, ended-next, ended-below, ended-above}
use Rattle.cc_whole_locals.proofs.blocks_end.Goals as goal

pub returns : goal.returns
returns c = record {
  gone = λ k b m i lt. ended-gone k b m i lt;
  next = λ k b m. ended-next k b m;
  below = λ k b m i lt. ended-below k b m i lt;
  above = λ k b m i le. ended-above k b m i le;
}
