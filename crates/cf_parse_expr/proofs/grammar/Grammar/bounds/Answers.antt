use Rattle.std.proofs.Common.{◌≡◌, Some, None, length, [], rules}
use Rattle.cf_syntax.specs.Parse.{loop}
use Rattle.cf_syntax.specs.Reading.{readers}
use Rattle.cf_parse_expr.specs.Unaries.{bound_turn, bounds}
use Rattle.cf_parse_expr.proofs.Loops.{goes-on, ends-there, ends-all}
use Rattle.cf_parse_expr.proofs.grammar.Grammar.bounds.Goals as goal

pub returns-in-Err-Nothing : goal.returns-in-Err-Nothing
unfolding bounds bound_turn
returns-in-Err-Nothing g c =
    let over : bound_turn (readers c.args.self.now.depth) c.args.names.now c.loop-turn.all c.loop-turn.c ≡ None = search rules in
    let e = ends-there (bound_turn (readers c.args.self.now.depth) c.args.names.now) c.len-turn-end.result c.loop-turn._turn c.loop-turn.all c.loop-turn.c (loop (bound_turn (readers c.args.self.now.depth) c.args.names.now) (length c.args.c.now) [] c.args.c.now) c.loop-turn-test.true over c.loop-turn.invariant in
    search rules

pub loop-turn-preserved : goal.loop-turn-preserved
unfolding bound_turn
loop-turn-preserved g c =
    let step : bound_turn (readers c.args.self.now.depth) c.args.names.now c.loop-turn.all c.loop-turn.c ≡ Some (c.push.new.self, c.bound.new.c) = search rules in
    goes-on (bound_turn (readers c.args.self.now.depth) c.args.names.now) c.len-turn-end.result c.loop-turn._turn c.loop-turn.all c.push.new.self c.loop-turn.c c.bound.new.c (loop (bound_turn (readers c.args.self.now.depth) c.args.names.now) (length c.args.c.now) [] c.args.c.now) c.loop-turn-test.true step c.loop-turn.invariant

pub returns : goal.returns
unfolding bounds
returns g c = ends-all (bound_turn (readers c.args.self.now.depth) c.args.names.now) c.len-turn-end.result c.loop-turn._turn c.loop-turn.all c.loop-turn.c (loop (bound_turn (readers c.args.self.now.depth) c.args.names.now) (length c.args.c.now) [] c.args.c.now) c.loop-turn-test.false c.loop-turn.invariant
