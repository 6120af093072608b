use Rattle.std.proofs.Common.{◌≡◌, Some, None, rules}
use Rattle.cf_syntax.specs.Parse.{loop}
use Rattle.cf_syntax.specs.Reading.{readers}
use Rattle.cf_parse_expr.specs.Declarators.{tree_turn, tree_turns}
use Rattle.cf_parse_expr.proofs.Loops.{goes-on, ends-there, ends-all}
use Rattle.cf_parse_expr.proofs.grammar.Grammar.tree_turns.Goals as goal

pub returns-in-Err-Nothing : goal.returns-in-Err-Nothing
unfolding tree_turns tree_turn
returns-in-Err-Nothing g c =
    let over : tree_turn (readers c.args.self.now.depth) c.args.names.now c.loop-turn.d c.loop-turn.c ≡ None = search rules in
    let e = ends-there (tree_turn (readers c.args.self.now.depth) c.args.names.now) c.args.turns c.loop-turn._turn c.loop-turn.d c.loop-turn.c (loop (tree_turn (readers c.args.self.now.depth) c.args.names.now) (c.args.turns) c.args.first c.args.c.now) c.loop-turn-test.true over c.loop-turn.invariant in
    search rules

pub loop-turn-preserved : goal.loop-turn-preserved
unfolding tree_turn
loop-turn-preserved g c =
    let step : tree_turn (readers c.args.self.now.depth) c.args.names.now c.loop-turn.d c.loop-turn.c ≡ Some (c.in_ok-d-in-Ok.d, c.suffix_at.new.c) = search rules in
    goes-on (tree_turn (readers c.args.self.now.depth) c.args.names.now) c.args.turns c.loop-turn._turn c.loop-turn.d c.in_ok-d-in-Ok.d c.loop-turn.c c.suffix_at.new.c (loop (tree_turn (readers c.args.self.now.depth) c.args.names.now) (c.args.turns) c.args.first c.args.c.now) c.loop-turn-test.true step c.loop-turn.invariant

pub returns : goal.returns
unfolding tree_turns
returns g c = ends-all (tree_turn (readers c.args.self.now.depth) c.args.names.now) c.args.turns c.loop-turn._turn c.loop-turn.d c.loop-turn.c (loop (tree_turn (readers c.args.self.now.depth) c.args.names.now) (c.args.turns) c.args.first c.args.c.now) c.loop-turn-test.false c.loop-turn.invariant
