use Rattle.cf_elab_valid.proofs.Statements.{expression-statement, empty-statement, if-statement, while-statement, do-statement, for-statement, break-statement, continue-statement, return-statement}
use Rattle.cf_elab_valid.proofs.Blocks.{block-statement}
use Rattle.cf_elab_valid.proofs.laws.simple_statements_are_valid.Goals as goal

pub returns : goal.returns
returns c = λ s n m scene. record {
  expression = expression-statement s scene n m;
  empty = empty-statement s scene n m;
  choice = if-statement s scene n m;
  while_loop = while-statement s scene n m;
  do_loop = do-statement s scene n m;
  for_loop = for-statement s scene n m;
  block = block-statement s scene n m;
  leaving = break-statement s scene n m;
  continuing = continue-statement s scene n m;
  giving = return-statement s scene n m;
}
