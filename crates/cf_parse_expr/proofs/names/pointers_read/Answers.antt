use Rattle.std.proofs.Common.{◌≡◌, Some, None, rules}
use Rattle.cf_parse_expr.specs.Named.{pointer_turn, pointers_at}
use Rattle.cf_parse_expr.proofs.Loops.{goes-on, ends-there}
use Rattle.cf_parse_expr.proofs.names.pointers_read.Goals as goal

pub returns-in-Err-Nothing : goal.returns-in-Err-Nothing
unfolding pointers_at pointer_turn
returns-in-Err-Nothing c =
    let over : pointer_turn c.args.names.now c.loop-turn.all c.loop-turn.c ≡ None = search rules in
    let e = ends-there (pointer_turn c.args.names.now) c.len-turn-end.result c.loop-turn._turn c.loop-turn.all c.loop-turn.c _ c.loop-turn-test.true over c.loop-turn.invariant in
    search rules

pub loop-turn-preserved : goal.loop-turn-preserved
unfolding pointer_turn
loop-turn-preserved c =
    let step : pointer_turn c.args.names.now c.loop-turn.all c.loop-turn.c ≡ Some (c.push.new.self, c.pointer_read.new.c) = search rules in
    goes-on (pointer_turn c.args.names.now) c.len-turn-end.result c.loop-turn._turn c.loop-turn.all c.push.new.self c.loop-turn.c c.pointer_read.new.c _ c.loop-turn-test.true step c.loop-turn.invariant
