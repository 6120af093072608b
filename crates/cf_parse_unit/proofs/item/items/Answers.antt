use Rattle.std.proofs.Common.{◌≡◌, ◌≤◌, ◌<◌, Some, true, false, [], ◌∷◌, ◌++◌, ◌-◌, length, refl, rules}
use Rattle.cf_unit.specs.Files.{at_end}
use Rattle.cf_syntax.specs.Parse.{pure}
use Rattle.cf_unit.specs.Read.{element, row}
use Rattle.cf_parse_unit.specs.Files.{next_item, items, one_item}
use Rattle.cf_parse_decl.proofs.Elements.{ended, stops-as, stalls, goes-on, runs-out}
use Rattle.cf_parse_unit.proofs.item.items.Goals as goal

pub returns-then-is_at_end : goal.returns-then-is_at_end
unfolding items
returns-then-is_at_end g c =
    let here : at_end c.loop-turn.c ≡ true = search rules in
    ended at_end (next_item c.args.grammar.now.depth) (c.len-turn-end.result - c.loop-turn._turn) (c.loop-turn.all, c.loop-turn.known) c.loop-turn.c (row (λ s. element at_end (next_item c.args.grammar.now.depth s)) (length c.args.c.now) ([], c.args.known.now) c.args.c.now) here c.loop-turn.invariant

pub returns-in-Err : goal.returns-in-Err
unfolding items next_item
returns-in-Err g c =
    let more : at_end c.loop-turn.c ≡ false = search rules in
    stops-as at_end (next_item c.args.grammar.now.depth) (c.len-turn-end.result - c.loop-turn._turn) (c.loop-turn.all, c.loop-turn.known) c.loop-turn.c (row (λ s. element at_end (next_item c.args.grammar.now.depth s)) (length c.args.c.now) ([], c.args.known.now) c.args.c.now) more
    (one_item c.args.grammar.now.depth c.loop-turn.known c.loop-turn.c) (λ x. pure (c.loop-turn.all ++ x.0 ∷ [], x.1)) refl c.loop-turn.invariant c.in-Err.stop (c.in-Err.ensures)

pub returns-then-len-left : goal.returns-then-len-left
unfolding items next_item
returns-then-len-left g c =
    let more : at_end c.loop-turn.c ≡ false = search rules in
    let read : next_item c.args.grammar.now.depth (c.loop-turn.all, c.loop-turn.known) c.loop-turn.c ≡ Some ((c.loop-turn.all ++ c.in-Ok.x ∷ [], c.item_read.new.known), c.item_read.new.c) = search rules in
    let longer : length c.loop-turn.c ≤ length c.item_read.new.c = search rules in
    stalls at_end (next_item c.args.grammar.now.depth) (c.len-turn-end.result - c.loop-turn._turn) (c.loop-turn.all, c.loop-turn.known) (c.loop-turn.all ++ c.in-Ok.x ∷ [], c.item_read.new.known) c.loop-turn.c c.item_read.new.c (row (λ s. element at_end (next_item c.args.grammar.now.depth s)) (length c.args.c.now) ([], c.args.known.now) c.args.c.now)
    more read longer c.loop-turn.invariant

pub loop-turn-preserved : goal.loop-turn-preserved
unfolding next_item
loop-turn-preserved g c =
    let more : at_end c.loop-turn.c ≡ false = search rules in
    let read : next_item c.args.grammar.now.depth (c.loop-turn.all, c.loop-turn.known) c.loop-turn.c ≡ Some ((c.push.new.self, c.item_read.new.known), c.item_read.new.c) = search rules in
    let shorter : length c.item_read.new.c < length c.loop-turn.c = search rules in
    goes-on at_end (next_item c.args.grammar.now.depth) c.len-turn-end.result c.loop-turn._turn (c.loop-turn.all, c.loop-turn.known) (c.push.new.self, c.item_read.new.known) c.loop-turn.c c.item_read.new.c (row (λ s. element at_end (next_item c.args.grammar.now.depth s)) (length c.args.c.now) ([], c.args.known.now) c.args.c.now)
    c.loop-turn-test.true more read shorter c.loop-turn.invariant

pub returns-then-is_at_end-2 : goal.returns-then-is_at_end-2
unfolding items
returns-then-is_at_end-2 g c =
    let here : at_end c.loop-turn.c ≡ true = search rules in
    ended at_end (next_item c.args.grammar.now.depth) (c.len-turn-end.result - c.loop-turn._turn) (c.loop-turn.all, c.loop-turn.known) c.loop-turn.c (row (λ s. element at_end (next_item c.args.grammar.now.depth s)) (length c.args.c.now) ([], c.args.known.now) c.args.c.now) here c.loop-turn.invariant

pub returns-else-is_at_end-2 : goal.returns-else-is_at_end-2
unfolding items
returns-else-is_at_end-2 g c =
    let more : at_end c.loop-turn.c ≡ false = search rules in
    runs-out at_end (next_item c.args.grammar.now.depth) c.len-turn-end.result c.loop-turn._turn (c.loop-turn.all, c.loop-turn.known) c.loop-turn.c (row (λ s. element at_end (next_item c.args.grammar.now.depth s)) (length c.args.c.now) ([], c.args.known.now) c.args.c.now) c.loop-turn-test.false more c.loop-turn.invariant
