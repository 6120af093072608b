use Rattle.cc_whole_locals.proofs.Blocks.{local-born, locals-next, locals-below, argument-born, arguments-next, arguments-below}
use Rattle.cc_whole_locals.proofs.blocks_are_born.Goals as goal

pub returns : goal.returns
returns c = record {
  locals = λ xs m i x e. local-born xs m i x e;
  locals_next = λ xs m. locals-next xs m;
  locals_below = λ xs m b lt. locals-below xs m b lt;
  arguments = λ vs m i v e. argument-born vs m i v e;
  arguments_next = λ vs m. arguments-next vs m;
  arguments_below = λ vs m b lt. arguments-below vs m b lt;
}
