use Rattle.cf_unit.specs.Read.{element}
use Rattle.cf_stuck.specs.Members.{ends, past}
use Rattle.cf_stuck_statement.specs.Parts.{turns}
use Rattle.cf_stuck_statement.proofs.Turns.{goes-on}
use Rattle.cf_stuck.proofs.seeker.Seeker.past_all.Goals as goal

pub loop-turn-preserved : goal.loop-turn-preserved
loop-turn-preserved g c =
    goes-on (λ b. element (ends c.args.self.now.finder.grammar.depth c.args.item) (past c.args.self.now.finder.grammar.depth c.args.item b)) c.args.count c.loop-turn._turn c.loop-turn.known c.loop-turn.c
    c.turn.new.known c.turn.new.c (turns (λ b. element (ends c.args.self.now.finder.grammar.depth c.args.item) (past c.args.self.now.finder.grammar.depth c.args.item b)) c.args.count c.args.known.now c.args.c.now)
    c.loop-turn-test.true c.in-Ok.ensures c.loop-turn.invariant
