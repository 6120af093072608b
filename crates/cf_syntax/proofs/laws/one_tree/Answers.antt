use Rattle.cf_syntax.proofs.Whole.{one-tree}
use Rattle.cf_syntax.proofs.laws.one_tree.Goals as goal

pub returns : goal.returns
returns c = one-tree
