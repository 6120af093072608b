use Rattle.std.proofs.Common.{◌≡◌, Some, None, rules}
use Rattle.cf_parse_expr.specs.Specified.{specifier_turn, more_specifiers}
use Rattle.cf_parse_expr.proofs.Loops.{goes-on, ends-there, ends-all}
use Rattle.cf_parse_expr.proofs.specifiers.more_specifiers.Goals as goal

pub returns-in-Err-Nothing : goal.returns-in-Err-Nothing
unfolding more_specifiers specifier_turn
returns-in-Err-Nothing c =
    let over : specifier_turn c.args.names.now c.loop-turn.s c.loop-turn.c ≡ None = search rules in
    let e = ends-there (specifier_turn c.args.names.now) c.len-turn-end.result c.loop-turn._turn c.loop-turn.s c.loop-turn.c _ c.loop-turn-test.true over c.loop-turn.invariant in
    search rules

pub loop-turn-preserved : goal.loop-turn-preserved
unfolding specifier_turn
loop-turn-preserved c =
    let step : specifier_turn c.args.names.now c.loop-turn.s c.loop-turn.c ≡ Some (c.in_ok-s-in-Ok.s, c.specifier.new.c) = search rules in
    goes-on (specifier_turn c.args.names.now) c.len-turn-end.result c.loop-turn._turn c.loop-turn.s c.in_ok-s-in-Ok.s c.loop-turn.c c.specifier.new.c _ c.loop-turn-test.true step c.loop-turn.invariant

pub returns : goal.returns
unfolding more_specifiers
returns c = ends-all (specifier_turn c.args.names.now) c.len-turn-end.result c.loop-turn._turn c.loop-turn.s c.loop-turn.c _ c.loop-turn-test.false c.loop-turn.invariant
