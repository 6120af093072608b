use Rattle.std.proofs.Common.{subst}
use Rattle.cf_stuck_statement.specs.Finds.{Finds}
use Rattle.cf_stuck_statement.proofs.Stuck.{statement-is}
use Rattle.cf_stuck_statement.proofs.finder.Finder.statement.Goals as goal

pub returns : goal.returns
returns g c = subst (λ o. Finds o c.either_statement.result) ((statement-is c.args.self.now.grammar.depth c.args.known.now).same c.args.c.now) c.either_statement.ensures
