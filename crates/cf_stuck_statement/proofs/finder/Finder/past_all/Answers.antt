use Rattle.cf_syntax.specs.Grammar.{sees}
use Rattle.cf_unit.specs.Pieces.{right_brace}
use Rattle.cf_unit.specs.Read.{element}
use Rattle.cf_parse_decl.specs.Insides.{insides}
use Rattle.cf_stuck_statement.specs.Parts.{turns}
use Rattle.cf_stuck_statement.specs.Statements.{past}
use Rattle.cf_stuck_statement.proofs.Turns.{goes-on}
use Rattle.cf_stuck_statement.proofs.finder.Finder.past_all.Goals as goal

pub loop-turn-preserved : goal.loop-turn-preserved
loop-turn-preserved g c =
    goes-on (λ b. element (sees right_brace) (past (insides c.args.self.now.grammar.depth) c.args.item b)) c.args.count c.loop-turn._turn c.loop-turn.known c.loop-turn.c
    c.turn.new.known c.turn.new.c (turns (λ b. element (sees right_brace) (past (insides c.args.self.now.grammar.depth) c.args.item b)) c.args.count c.args.known.now c.args.c.now)
    c.loop-turn-test.true c.in-Ok.ensures c.loop-turn.invariant
