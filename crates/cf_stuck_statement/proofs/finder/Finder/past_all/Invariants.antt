use Rattle.std.proofs.Common.{◌≡◌, ◌-◌}
use Rattle.cf_syntax.specs.Grammar.{sees}
use Rattle.cf_unit.specs.Pieces.{right_brace}
use Rattle.cf_unit.specs.Read.{element}
use Rattle.cf_parse_decl.specs.Insides.{insides}
use Rattle.cf_stuck_statement.specs.Parts.{turns}
use Rattle.cf_stuck_statement.specs.Statements.{past}
use Rattle.cf_stuck_statement.proofs.finder.Finder.past_all.Given as goal

abbrev pub invariant-loop-turn : goal.invariant-loop-turn
invariant-loop-turn g l =
    turns (λ b. element (sees right_brace) (past (insides l.self.grammar.depth) l.item b)) (l.count - l._turn) l.known l.c
    ≡ turns (λ b. element (sees right_brace) (past (insides l.self.grammar.depth) l.item b)) l.fn.count l.fn.known l.fn.c
