use Rattle.std.proofs.Common.{◌≡◌, ◌≤◌, None, ◌∙◌, ap, rules}
use Rattle.cf_unit.specs.Read.{element, row}
use Rattle.cf_stuck.specs.Members.{ends, past}
use Rattle.cf_stuck_statement.proofs.Turns.{counted-one, counted-stops, counted-all}
use Rattle.cf_stuck.proofs.seeker.Seeker.count.Goals as goal

pub returns-in-Err-Nothing : goal.returns-in-Err-Nothing
returns-in-Err-Nothing g c =
    let none : element (ends c.args.self.now.finder.grammar.depth c.args.item) (past c.args.self.now.finder.grammar.depth c.args.item c.loop-count.known) c.loop-count.c ≡ None = search rules in
    counted-stops (λ b. element (ends c.args.self.now.finder.grammar.depth c.args.item) (past c.args.self.now.finder.grammar.depth c.args.item b)) c.len-most.result c.loop-count.count c.args.known.now c.args.c.now
    c.loop-count.known c.loop-count.c none c.loop-count.invariant
    ∙ ap (λ m. row (λ b. element (ends c.args.self.now.finder.grammar.depth c.args.item) (past c.args.self.now.finder.grammar.depth c.args.item b)) m c.args.known.now c.args.c.now) c.len-most.ensures

pub loop-count-preserved : goal.loop-count-preserved
loop-count-preserved g c =
    counted-one (λ b. element (ends c.args.self.now.finder.grammar.depth c.args.item) (past c.args.self.now.finder.grammar.depth c.args.item b)) c.len-most.result c.loop-count.count c.args.known.now c.args.c.now
    c.loop-count.known c.loop-count.c c.turn.new.known c.turn.new.c c.loop-count-test.true c.in-Ok.ensures c.loop-count.invariant

pub returns : goal.returns
returns g c =
    let done : c.len-most.result ≤ c.loop-count.count = search rules in
    let above : c.loop-count.count ≤ c.len-most.result = search rules in
    counted-all (λ b. element (ends c.args.self.now.finder.grammar.depth c.args.item) (past c.args.self.now.finder.grammar.depth c.args.item b)) c.len-most.result c.loop-count.count c.args.known.now c.args.c.now
    c.loop-count.known c.loop-count.c done above c.loop-count.invariant
    ∙ ap (λ m. row (λ b. element (ends c.args.self.now.finder.grammar.depth c.args.item) (past c.args.self.now.finder.grammar.depth c.args.item b)) m c.args.known.now c.args.c.now) c.len-most.ensures
