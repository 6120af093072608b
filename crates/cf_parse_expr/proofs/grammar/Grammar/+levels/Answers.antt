use Rattle.std.proofs.Common.{◌≡◌, Some, None, length, subst, ap, arith, rules}
use Rattle.cf_syntax.specs.Parse.{loop}
use Rattle.cf_syntax.specs.Reading.{readers}
use Rattle.cf_parse_expr.specs.Reads.{Reads}
use Rattle.cf_parse_expr.specs.Binaries.{binary_turn, more_binary, joined_from}
use Rattle.cf_parse_expr.proofs.Levels.{next-is}
use Rattle.cf_parse_expr.proofs.Loops.{goes-on, ends-there, ends-all}
use Rattle.cf_parse_expr.proofs.grammar.Grammar.+levels.Goals as goal

pub joined_from-returns-then-level-eq0 : goal.joined_from-returns-then-level-eq0
unfolding joined_from
joined_from-returns-then-level-eq0 g t c =
    let none : c.args.level ≡ 0 = omega arith in
    ap (λ n. joined_from (readers c.args.self.now.depth) c.args.names.now n c.args.first c.args.c.now) none

pub joined_from-returns : goal.joined_from-returns
joined_from-returns g t c =
    subst (λ o. Reads o c.joined_next.result c.joined_next.new.c)
    (next-is (readers c.args.self.now.depth) c.args.names.now c.args.level c.args.first c.args.c.now (omega arith)) c.joined_next.ensures

pub more_binary-returns-in-Err-Nothing : goal.more_binary-returns-in-Err-Nothing
unfolding more_binary binary_turn
more_binary-returns-in-Err-Nothing g t c =
    let over : binary_turn (readers c.args.self.now.depth) c.args.names.now c.args.level (joined_from (readers c.args.self.now.depth) c.args.names.now c.args.level) c.loop-turn.a c.loop-turn.c ≡ None = search rules in
    let e = ends-there (binary_turn (readers c.args.self.now.depth) c.args.names.now c.args.level (joined_from (readers c.args.self.now.depth) c.args.names.now c.args.level)) c.len-turn-end.result c.loop-turn._turn c.loop-turn.a c.loop-turn.c (loop (binary_turn (readers c.args.self.now.depth) c.args.names.now c.args.level (joined_from (readers c.args.self.now.depth) c.args.names.now c.args.level)) (length c.args.c.now) c.args.first c.args.c.now) c.loop-turn-test.true over c.loop-turn.invariant in
    search rules

pub more_binary-loop-turn-preserved : goal.more_binary-loop-turn-preserved
unfolding binary_turn
more_binary-loop-turn-preserved g t c =
    let step : binary_turn (readers c.args.self.now.depth) c.args.names.now c.args.level (joined_from (readers c.args.self.now.depth) c.args.names.now c.args.level) c.loop-turn.a c.loop-turn.c ≡ Some (c.in_ok-a-in-Ok.a, c.right_side.new.c) = search rules in
    goes-on (binary_turn (readers c.args.self.now.depth) c.args.names.now c.args.level (joined_from (readers c.args.self.now.depth) c.args.names.now c.args.level)) c.len-turn-end.result c.loop-turn._turn c.loop-turn.a c.in_ok-a-in-Ok.a c.loop-turn.c c.right_side.new.c (loop (binary_turn (readers c.args.self.now.depth) c.args.names.now c.args.level (joined_from (readers c.args.self.now.depth) c.args.names.now c.args.level)) (length c.args.c.now) c.args.first c.args.c.now) c.loop-turn-test.true step c.loop-turn.invariant

pub more_binary-returns : goal.more_binary-returns
unfolding more_binary
more_binary-returns g t c = ends-all (binary_turn (readers c.args.self.now.depth) c.args.names.now c.args.level (joined_from (readers c.args.self.now.depth) c.args.names.now c.args.level)) c.len-turn-end.result c.loop-turn._turn c.loop-turn.a c.loop-turn.c (loop (binary_turn (readers c.args.self.now.depth) c.args.names.now c.args.level (joined_from (readers c.args.self.now.depth) c.args.names.now c.args.level)) (length c.args.c.now) c.args.first c.args.c.now) c.loop-turn-test.false c.loop-turn.invariant
