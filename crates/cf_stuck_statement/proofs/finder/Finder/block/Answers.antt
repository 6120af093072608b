use Rattle.std.proofs.Common.{subst}
use Rattle.cf_stuck_statement.specs.Finds.{Finds}
use Rattle.cf_stuck_statement.proofs.Stuck.{block-is}
use Rattle.cf_stuck_statement.proofs.finder.Finder.block.Goals as goal

pub returns : goal.returns
returns g c = subst (λ o. Finds o c.braced.result) ((block-is c.args.self.now.grammar.depth c.args.known.now).same c.args.c.now) c.braced.ensures
