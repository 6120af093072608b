use Rattle.std.proofs.Common.{◌≡◌, Some, None, length, rules}
use Rattle.cf_syntax.specs.Parse.{loop}
use Rattle.cf_syntax.specs.Reading.{readers}
use Rattle.cf_parse_expr.specs.Params.{param_turn, more_params}
use Rattle.cf_parse_expr.proofs.Loops.{goes-on, ends-there, ends-all}
use Rattle.cf_parse_expr.proofs.grammar.Grammar.more_params.Goals as goal

pub returns-in-Err-Nothing : goal.returns-in-Err-Nothing
unfolding more_params param_turn
returns-in-Err-Nothing g c =
    let over : param_turn (readers c.args.self.now.depth) c.args.names.now c.loop-turn.all c.loop-turn.c ≡ None = search rules in
    let e = ends-there (param_turn (readers c.args.self.now.depth) c.args.names.now) c.len-turn-end.result c.loop-turn._turn c.loop-turn.all c.loop-turn.c (loop (param_turn (readers c.args.self.now.depth) c.args.names.now) (length c.args.c.now) c.args.first c.args.c.now) c.loop-turn-test.true over c.loop-turn.invariant in
    search rules

pub loop-turn-preserved : goal.loop-turn-preserved
unfolding param_turn
loop-turn-preserved g c =
    let step : param_turn (readers c.args.self.now.depth) c.args.names.now c.loop-turn.all c.loop-turn.c ≡ Some (c.push.new.self, c.next_param.new.c) = search rules in
    goes-on (param_turn (readers c.args.self.now.depth) c.args.names.now) c.len-turn-end.result c.loop-turn._turn c.loop-turn.all c.push.new.self c.loop-turn.c c.next_param.new.c (loop (param_turn (readers c.args.self.now.depth) c.args.names.now) (length c.args.c.now) c.args.first c.args.c.now) c.loop-turn-test.true step c.loop-turn.invariant

pub returns : goal.returns
unfolding more_params
returns g c = ends-all (param_turn (readers c.args.self.now.depth) c.args.names.now) c.len-turn-end.result c.loop-turn._turn c.loop-turn.all c.loop-turn.c (loop (param_turn (readers c.args.self.now.depth) c.args.names.now) (length c.args.c.now) c.args.first c.args.c.now) c.loop-turn-test.false c.loop-turn.invariant
