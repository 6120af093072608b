use Rattle.std.proofs.Common.{◌≡◌, Some, None, length, rules}
use Rattle.cf_syntax.specs.Parse.{loop}
use Rattle.cf_syntax.specs.Reading.{readers}
use Rattle.cf_parse_expr.specs.Operands.{behind_turn, more_behind}
use Rattle.cf_parse_expr.proofs.Loops.{goes-on, ends-there, ends-all}
use Rattle.cf_parse_expr.proofs.grammar.Grammar.more_behind.Goals as goal

pub returns-in-Err-Nothing : goal.returns-in-Err-Nothing
unfolding more_behind behind_turn
returns-in-Err-Nothing g c =
    let over : behind_turn (readers c.args.self.now.depth) c.args.names.now c.loop-turn.a c.loop-turn.c ≡ None = search rules in
    let e = ends-there (behind_turn (readers c.args.self.now.depth) c.args.names.now) c.len-turn-end.result c.loop-turn._turn c.loop-turn.a c.loop-turn.c (loop (behind_turn (readers c.args.self.now.depth) c.args.names.now) (length c.args.c.now) c.args.first c.args.c.now) c.loop-turn-test.true over c.loop-turn.invariant in
    search rules

pub loop-turn-preserved : goal.loop-turn-preserved
unfolding behind_turn
loop-turn-preserved g c =
    let step : behind_turn (readers c.args.self.now.depth) c.args.names.now c.loop-turn.a c.loop-turn.c ≡ Some (c.in_ok-a-in-Ok.a, c.behind.new.c) = search rules in
    goes-on (behind_turn (readers c.args.self.now.depth) c.args.names.now) c.len-turn-end.result c.loop-turn._turn c.loop-turn.a c.in_ok-a-in-Ok.a c.loop-turn.c c.behind.new.c (loop (behind_turn (readers c.args.self.now.depth) c.args.names.now) (length c.args.c.now) c.args.first c.args.c.now) c.loop-turn-test.true step c.loop-turn.invariant

pub returns : goal.returns
unfolding more_behind
returns g c = ends-all (behind_turn (readers c.args.self.now.depth) c.args.names.now) c.len-turn-end.result c.loop-turn._turn c.loop-turn.a c.loop-turn.c (loop (behind_turn (readers c.args.self.now.depth) c.args.names.now) (length c.args.c.now) c.args.first c.args.c.now) c.loop-turn-test.false c.loop-turn.invariant
