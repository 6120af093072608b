use Rattle.std.proofs.Common.{◌≡◌, ◌≤◌, ◌<◌, Some, true, false, [], ◌∷◌, ◌++◌, ◌-◌, length, refl, rules}
use Rattle.cf_syntax.specs.Grammar.{sees}
use Rattle.cf_syntax.specs.Parse.{pure}
use Rattle.cf_unit.specs.Pieces.{right_brace}
use Rattle.cf_unit.specs.Read.{element, row}
use Rattle.cf_parse_member.specs.Classes.{next_member, all_members}
use Rattle.cf_parse_member.specs.Members.{one_member}
use Rattle.cf_parse_decl.proofs.Elements.{ended, stops-as, stalls, goes-on, runs-out}
use Rattle.cf_parse_member.proofs.list.all_members.Goals as goal

pub returns-then-front-eq-RIGHT_BRACE : goal.returns-then-front-eq-RIGHT_BRACE
unfolding all_members
returns-then-front-eq-RIGHT_BRACE g c =
    let here : sees right_brace c.loop-turn.c ≡ true = search rules in
    ended (sees right_brace) (next_member c.args.grammar.now.depth) (c.len-turn-end.result - c.loop-turn._turn) (c.loop-turn.all, c.loop-turn.known) c.loop-turn.c (row (λ s. element (sees right_brace) (next_member c.args.grammar.now.depth s)) (length c.args.c.now) ([], c.args.known.now) c.args.c.now) here c.loop-turn.invariant

pub returns-in-Err : goal.returns-in-Err
unfolding all_members next_member
returns-in-Err g c =
    let more : sees right_brace c.loop-turn.c ≡ false = search rules in
    stops-as (sees right_brace) (next_member c.args.grammar.now.depth) (c.len-turn-end.result - c.loop-turn._turn) (c.loop-turn.all, c.loop-turn.known) c.loop-turn.c (row (λ s. element (sees right_brace) (next_member c.args.grammar.now.depth s)) (length c.args.c.now) ([], c.args.known.now) c.args.c.now) more
    (one_member c.args.grammar.now.depth c.loop-turn.known c.loop-turn.c) (λ x. pure (c.loop-turn.all ++ x.0 ∷ [], x.1)) refl c.loop-turn.invariant c.in-Err.stop (c.in-Err.ensures)

pub returns-then-len-left : goal.returns-then-len-left
unfolding all_members next_member
returns-then-len-left g c =
    let more : sees right_brace c.loop-turn.c ≡ false = search rules in
    let read : next_member c.args.grammar.now.depth (c.loop-turn.all, c.loop-turn.known) c.loop-turn.c ≡ Some ((c.loop-turn.all ++ c.in-Ok.m ∷ [], c.member_read.new.known), c.member_read.new.c) = search rules in
    let longer : length c.loop-turn.c ≤ length c.member_read.new.c = search rules in
    stalls (sees right_brace) (next_member c.args.grammar.now.depth) (c.len-turn-end.result - c.loop-turn._turn) (c.loop-turn.all, c.loop-turn.known) (c.loop-turn.all ++ c.in-Ok.m ∷ [], c.member_read.new.known) c.loop-turn.c c.member_read.new.c (row (λ s. element (sees right_brace) (next_member c.args.grammar.now.depth s)) (length c.args.c.now) ([], c.args.known.now) c.args.c.now)
    more read longer c.loop-turn.invariant

pub loop-turn-preserved : goal.loop-turn-preserved
unfolding next_member
loop-turn-preserved g c =
    let more : sees right_brace c.loop-turn.c ≡ false = search rules in
    let read : next_member c.args.grammar.now.depth (c.loop-turn.all, c.loop-turn.known) c.loop-turn.c ≡ Some ((c.push.new.self, c.member_read.new.known), c.member_read.new.c) = search rules in
    let shorter : length c.member_read.new.c < length c.loop-turn.c = search rules in
    goes-on (sees right_brace) (next_member c.args.grammar.now.depth) c.len-turn-end.result c.loop-turn._turn (c.loop-turn.all, c.loop-turn.known) (c.push.new.self, c.member_read.new.known) c.loop-turn.c c.member_read.new.c (row (λ s. element (sees right_brace) (next_member c.args.grammar.now.depth s)) (length c.args.c.now) ([], c.args.known.now) c.args.c.now)
    c.loop-turn-test.true more read shorter c.loop-turn.invariant

pub returns-then-front-eq-RIGHT_BRACE-2 : goal.returns-then-front-eq-RIGHT_BRACE-2
unfolding all_members
returns-then-front-eq-RIGHT_BRACE-2 g c =
    let here : sees right_brace c.loop-turn.c ≡ true = search rules in
    ended (sees right_brace) (next_member c.args.grammar.now.depth) (c.len-turn-end.result - c.loop-turn._turn) (c.loop-turn.all, c.loop-turn.known) c.loop-turn.c (row (λ s. element (sees right_brace) (next_member c.args.grammar.now.depth s)) (length c.args.c.now) ([], c.args.known.now) c.args.c.now) here c.loop-turn.invariant

pub returns-else-front-eq-RIGHT_BRACE-2 : goal.returns-else-front-eq-RIGHT_BRACE-2
unfolding all_members
returns-else-front-eq-RIGHT_BRACE-2 g c =
    let more : sees right_brace c.loop-turn.c ≡ false = search rules in
    runs-out (sees right_brace) (next_member c.args.grammar.now.depth) c.len-turn-end.result c.loop-turn._turn (c.loop-turn.all, c.loop-turn.known) c.loop-turn.c (row (λ s. element (sees right_brace) (next_member c.args.grammar.now.depth s)) (length c.args.c.now) ([], c.args.known.now) c.args.c.now) c.loop-turn-test.false more c.loop-turn.invariant
