use Rattle.std.proofs.Common.{◌≡◌, ◌≤◌, ◌<◌, Some, true, false, [], ◌∷◌, ◌++◌, ◌-◌, length, refl, rules}
use Rattle.cf_syntax.specs.Grammar.{sees}
use Rattle.cf_syntax.specs.Parse.{pure}
use Rattle.cf_unit.specs.Pieces.{right_brace}
use Rattle.cf_unit.specs.Read.{element, row}
use Rattle.cf_parse_unit.specs.Files.{next_simple, all_simple, simple_at}
use Rattle.cf_parse_decl.proofs.Elements.{ended, stops-as, stalls, goes-on, runs-out}
use Rattle.cf_parse_unit.proofs.linkages.all_simple.Goals as goal

pub returns-then-front-eq-RIGHT_BRACE : goal.returns-then-front-eq-RIGHT_BRACE
unfolding all_simple
returns-then-front-eq-RIGHT_BRACE g c =
    let here : sees right_brace c.loop-turn.c ≡ true = search rules in
    ended (sees right_brace) (next_simple c.args.grammar.now.depth) (c.len-turn-end.result - c.loop-turn._turn) (c.loop-turn.all, c.loop-turn.known) c.loop-turn.c (row (λ s. element (sees right_brace) (next_simple c.args.grammar.now.depth s)) (length c.args.c.now) ([], c.args.known.now) c.args.c.now) here c.loop-turn.invariant

pub returns-in-Err : goal.returns-in-Err
unfolding all_simple next_simple
returns-in-Err g c =
    let more : sees right_brace c.loop-turn.c ≡ false = search rules in
    stops-as (sees right_brace) (next_simple c.args.grammar.now.depth) (c.len-turn-end.result - c.loop-turn._turn) (c.loop-turn.all, c.loop-turn.known) c.loop-turn.c (row (λ s. element (sees right_brace) (next_simple c.args.grammar.now.depth s)) (length c.args.c.now) ([], c.args.known.now) c.args.c.now) more
    (simple_at c.args.grammar.now.depth c.loop-turn.known c.loop-turn.c) (λ x. pure (c.loop-turn.all ++ x.0 ∷ [], x.1)) refl c.loop-turn.invariant c.in-Err.stop (c.in-Err.ensures)

pub returns-then-len-left : goal.returns-then-len-left
unfolding all_simple next_simple
returns-then-len-left g c =
    let more : sees right_brace c.loop-turn.c ≡ false = search rules in
    let read : next_simple c.args.grammar.now.depth (c.loop-turn.all, c.loop-turn.known) c.loop-turn.c ≡ Some ((c.loop-turn.all ++ c.in-Ok.d ∷ [], c.simple.new.known), c.simple.new.c) = search rules in
    let longer : length c.loop-turn.c ≤ length c.simple.new.c = search rules in
    stalls (sees right_brace) (next_simple c.args.grammar.now.depth) (c.len-turn-end.result - c.loop-turn._turn) (c.loop-turn.all, c.loop-turn.known) (c.loop-turn.all ++ c.in-Ok.d ∷ [], c.simple.new.known) c.loop-turn.c c.simple.new.c (row (λ s. element (sees right_brace) (next_simple c.args.grammar.now.depth s)) (length c.args.c.now) ([], c.args.known.now) c.args.c.now)
    more read longer c.loop-turn.invariant

pub loop-turn-preserved : goal.loop-turn-preserved
unfolding next_simple
loop-turn-preserved g c =
    let more : sees right_brace c.loop-turn.c ≡ false = search rules in
    let read : next_simple c.args.grammar.now.depth (c.loop-turn.all, c.loop-turn.known) c.loop-turn.c ≡ Some ((c.push.new.self, c.simple.new.known), c.simple.new.c) = search rules in
    let shorter : length c.simple.new.c < length c.loop-turn.c = search rules in
    goes-on (sees right_brace) (next_simple c.args.grammar.now.depth) c.len-turn-end.result c.loop-turn._turn (c.loop-turn.all, c.loop-turn.known) (c.push.new.self, c.simple.new.known) c.loop-turn.c c.simple.new.c (row (λ s. element (sees right_brace) (next_simple c.args.grammar.now.depth s)) (length c.args.c.now) ([], c.args.known.now) c.args.c.now)
    c.loop-turn-test.true more read shorter c.loop-turn.invariant

pub returns-then-front-eq-RIGHT_BRACE-2 : goal.returns-then-front-eq-RIGHT_BRACE-2
unfolding all_simple
returns-then-front-eq-RIGHT_BRACE-2 g c =
    let here : sees right_brace c.loop-turn.c ≡ true = search rules in
    ended (sees right_brace) (next_simple c.args.grammar.now.depth) (c.len-turn-end.result - c.loop-turn._turn) (c.loop-turn.all, c.loop-turn.known) c.loop-turn.c (row (λ s. element (sees right_brace) (next_simple c.args.grammar.now.depth s)) (length c.args.c.now) ([], c.args.known.now) c.args.c.now) here c.loop-turn.invariant

pub returns-else-front-eq-RIGHT_BRACE-2 : goal.returns-else-front-eq-RIGHT_BRACE-2
unfolding all_simple
returns-else-front-eq-RIGHT_BRACE-2 g c =
    let more : sees right_brace c.loop-turn.c ≡ false = search rules in
    runs-out (sees right_brace) (next_simple c.args.grammar.now.depth) c.len-turn-end.result c.loop-turn._turn (c.loop-turn.all, c.loop-turn.known) c.loop-turn.c (row (λ s. element (sees right_brace) (next_simple c.args.grammar.now.depth s)) (length c.args.c.now) ([], c.args.known.now) c.args.c.now) c.loop-turn-test.false more c.loop-turn.invariant
