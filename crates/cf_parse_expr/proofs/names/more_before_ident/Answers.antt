use Rattle.std.proofs.Common.{◌≡◌, Some, rules}
use Rattle.cf_syntax.specs.Named.{before_ident}
use Rattle.cf_parse_expr.specs.Named.{ahead_of_ident, more_before_ident}
use Rattle.cf_parse_expr.proofs.Loops.{goes-on, ends-there, ends-all}
use Rattle.cf_parse_expr.proofs.Qualifying.{before_ident-on, before_ident-none}
use Rattle.cf_parse_expr.proofs.names.more_before_ident.Goals as goal

pub returns-in-None : goal.returns-in-None
unfolding more_before_ident
returns-in-None c =
    ends-there (before_ident c.args.names.now) c.len-turn-end.result c.loop-turn._turn c.loop-turn.q c.loop-turn.c _ c.loop-turn-test.true
    (before_ident-none c.args.names.now c.loop-turn.q c.loop-turn.c c.in-None.ensures) c.loop-turn.invariant

pub loop-turn-preserved : goal.loop-turn-preserved
loop-turn-preserved c =
    let e : Some (c.in-Some.name.now, c.in-Some.next) ≡ ahead_of_ident c.args.names.now c.loop-turn.q.asked c.loop-turn.c = search rules in
    goes-on (before_ident c.args.names.now) c.len-turn-end.result c.loop-turn._turn c.loop-turn.q c.grow.new.q c.loop-turn.c c.skip_two.new.self _ c.loop-turn-test.true
    (before_ident-on c.args.names.now c.loop-turn.q c.grow.new.q c.in-Some.name.now c.in-Some.next c.loop-turn.c c.skip_two.new.self e
    c.in_ok-grow-in-Some.ensures c.skip_two.ensures) c.loop-turn.invariant

pub returns : goal.returns
unfolding more_before_ident
returns c = ends-all (before_ident c.args.names.now) c.len-turn-end.result c.loop-turn._turn c.loop-turn.q c.loop-turn.c _ c.loop-turn-test.false c.loop-turn.invariant
