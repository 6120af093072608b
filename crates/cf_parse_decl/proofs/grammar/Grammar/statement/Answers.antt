use Rattle.std.proofs.Common.{subst}
use Rattle.cf_parse_decl.specs.Reads.{Gives}
use Rattle.cf_parse_decl.proofs.Read.{statement-is}
use Rattle.cf_parse_decl.proofs.grammar.Grammar.statement.Goals as goal

pub returns : goal.returns
returns g c =
    subst (λ o. Gives o c.either_statement.result c.either_statement.new.known c.either_statement.new.c)
    (statement-is c.args.self.now.depth c.args.known.now c.args.c.now) c.either_statement.ensures
