use Rattle.std.proofs.Common.{◌≡◌, ◌≤◌, ◌<◌, Some, None, true, false, [], ◌∷◌, ◌++◌, ◌-◌, length, refl, sym, subst, rules}
use Rattle.cf_syntax.specs.Grammar.{sees}
use Rattle.cf_syntax.specs.Parse.{pure, then}
use Rattle.cf_syntax.specs.Words.{comma}
use Rattle.cf_parse_decl.specs.Reads.{Gives}
use Rattle.cf_parse_decl.proofs.Rows.{row-goes-on}
use Rattle.cf_parse_member.specs.Members.{a_declarator, with_pure, declarator_turn, next_declarator, behind_commas, closed}
use Rattle.cf_parse_simple.proofs.Commas.{none-behind, closes, stalls, breaks, ends}
use Rattle.cf_parse_member.proofs.MembersRead.{open-at-comma}
use Rattle.cf_unit.specs.Read.{taking, row}
use Rattle.cf_parse_member.proofs.member_list.behind_commas.Goals as goal

pub returns-then-front-ne-COMMA : goal.returns-then-front-ne-COMMA
unfolding behind_commas declarator_turn next_declarator
returns-then-front-ne-COMMA g c =
    let turn = declarator_turn c.args.grammar.now.depth c.args.home c.args.given.now in
    let past : sees comma c.loop-turn.c ≡ false = search rules in
    let over : turn (c.loop-turn.all, c.loop-turn.known) c.loop-turn.c ≡ None =
    none-behind comma c.loop-turn.c (λ _. then (a_declarator c.args.grammar.now.depth c.args.home c.args.given.now c.loop-turn.known) (λ d. then (with_pure d.0) (λ m. pure (m, d.1)))) (λ d. pure (c.loop-turn.all ++ d.0 ∷ [], d.1)) past in
    subst (λ o. Gives o c.closed.result c.closed.new.known c.closed.new.c)
    (sym (closes turn (closed c.args.home) (c.len-turn-end.result - c.loop-turn._turn) (c.loop-turn.all, c.loop-turn.known) c.loop-turn.c
    (row (λ b us. taking (turn b us) us) (length c.args.c.now) (c.args.first, c.args.known.now) c.args.c.now) over c.loop-turn.invariant)) c.closed.ensures

pub returns-in-Err : goal.returns-in-Err
unfolding behind_commas declarator_turn
returns-in-Err g c =
    let turn = declarator_turn c.args.grammar.now.depth c.args.home c.args.given.now in
    let here : sees comma c.loop-turn.c ≡ true = search rules in
    breaks turn (closed c.args.home) (c.len-turn-end.result - c.loop-turn._turn) (c.loop-turn.all, c.loop-turn.known) c.loop-turn.c
    (row (λ b us. taking (turn b us) us) (length c.args.c.now) (c.args.first, c.args.known.now) c.args.c.now)
    (next_declarator c.args.grammar.now.depth c.args.home c.args.given.now c.loop-turn.known c.loop-turn.c) (λ d. pure (c.loop-turn.all ++ d.0 ∷ [], d.1)) refl
    (open-at-comma c.args.home (c.loop-turn.all, c.loop-turn.known) c.loop-turn.c here) c.loop-turn.invariant c.in-Err.stop c.in-Err.ensures

pub returns-then-len-left : goal.returns-then-len-left
unfolding behind_commas declarator_turn
returns-then-len-left g c =
    let turn = declarator_turn c.args.grammar.now.depth c.args.home c.args.given.now in
    let here : sees comma c.loop-turn.c ≡ true = search rules in
    let read : turn (c.loop-turn.all, c.loop-turn.known) c.loop-turn.c ≡ Some ((c.loop-turn.all ++ c.in-Ok.d ∷ [], c.next_declarator.new.known), c.next_declarator.new.c) = search rules in
    let longer : length c.loop-turn.c ≤ length c.next_declarator.new.c = search rules in
    stalls turn (closed c.args.home) (c.len-turn-end.result - c.loop-turn._turn) (c.loop-turn.all, c.loop-turn.known) (c.loop-turn.all ++ c.in-Ok.d ∷ [], c.next_declarator.new.known) c.loop-turn.c c.next_declarator.new.c
    (row (λ b us. taking (turn b us) us) (length c.args.c.now) (c.args.first, c.args.known.now) c.args.c.now) read longer
    (open-at-comma c.args.home (c.loop-turn.all, c.loop-turn.known) c.loop-turn.c here) c.loop-turn.invariant

pub loop-turn-preserved : goal.loop-turn-preserved
unfolding declarator_turn
loop-turn-preserved g c =
    let turn = declarator_turn c.args.grammar.now.depth c.args.home c.args.given.now in
    let read : turn (c.loop-turn.all, c.loop-turn.known) c.loop-turn.c ≡ Some ((c.push.new.self, c.next_declarator.new.known), c.next_declarator.new.c) = search rules in
    let shorter : length c.next_declarator.new.c < length c.loop-turn.c = search rules in
    row-goes-on turn c.len-turn-end.result c.loop-turn._turn (c.loop-turn.all, c.loop-turn.known) (c.push.new.self, c.next_declarator.new.known) c.loop-turn.c c.next_declarator.new.c
    (row (λ b us. taking (turn b us) us) (length c.args.c.now) (c.args.first, c.args.known.now) c.args.c.now) c.loop-turn-test.true read shorter c.loop-turn.invariant

pub returns : goal.returns
unfolding behind_commas
returns g c =
    let turn = declarator_turn c.args.grammar.now.depth c.args.home c.args.given.now in
    subst (λ o. Gives o c.closed-2.result c.closed-2.new.known c.closed-2.new.c)
    (sym (ends turn (closed c.args.home) c.len-turn-end.result c.loop-turn._turn (c.loop-turn.all, c.loop-turn.known) c.loop-turn.c
    (row (λ b us. taking (turn b us) us) (length c.args.c.now) (c.args.first, c.args.known.now) c.args.c.now) c.loop-turn-test.false c.loop-turn.invariant)) c.closed-2.ensures
