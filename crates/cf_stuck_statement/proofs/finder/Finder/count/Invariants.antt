use Rattle.cf_syntax.specs.Grammar.{sees}
use Rattle.cf_unit.specs.Pieces.{right_brace}
use Rattle.cf_unit.specs.Read.{element}
use Rattle.cf_parse_decl.specs.Insides.{insides}
use Rattle.cf_stuck_statement.specs.Statements.{past}
use Rattle.cf_stuck_statement.proofs.Turns.{Counted}
use Rattle.cf_stuck_statement.proofs.finder.Finder.count.Given as goal

abbrev pub invariant-loop-count : goal.invariant-loop-count
invariant-loop-count g l =
    Counted (λ b. element (sees right_brace) (past (insides l.self.grammar.depth) l.item b)) l.most l.count l.fn.known l.fn.c l.known l.c
