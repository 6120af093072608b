use Rattle.std.proofs.Common.{◌≡◌, ◌≤◌, ◌<◌, Some, None, true, false, [], ◌∷◌, ◌++◌, ◌-◌, length, refl, sym, subst, rules}
use Rattle.cf_syntax.specs.Grammar.{sees}
use Rattle.cf_syntax.specs.Parse.{pure}
use Rattle.cf_syntax.specs.Words.{comma}
use Rattle.cf_parse_decl.specs.Reads.{Gives}
use Rattle.cf_parse_decl.proofs.Rows.{row-goes-on}
use Rattle.cf_parse_simple.specs.Enumerations.{enumerator, enumerator_turn, next_enumerator, more_enumerators, closed}
use Rattle.cf_parse_simple.proofs.Commas.{none-behind, closes, stalls, breaks, ends}
use Rattle.cf_parse_simple.proofs.Enumerating.{gives-closed, open-at-comma}
use Rattle.cf_unit.specs.Read.{taking, row}
use Rattle.cf_parse_simple.proofs.enumerations.more_enumerators.Goals as goal

pub returns-then-front-ne-COMMA : goal.returns-then-front-ne-COMMA
unfolding more_enumerators enumerator_turn next_enumerator
returns-then-front-ne-COMMA c =
    let past : sees comma c.loop-turn.c ≡ false = search rules in
    let over : enumerator_turn (c.loop-turn.all, c.loop-turn.known) c.loop-turn.c ≡ None =
    none-behind comma c.loop-turn.c (λ _. enumerator c.loop-turn.known) (λ e. pure (c.loop-turn.all ++ e.0 ∷ [], e.1)) past in
    subst (λ o. Gives o c.closed.result c.loop-turn.known c.closed.new.c)
    (sym (closes enumerator_turn closed (c.len-turn-end.result - c.loop-turn._turn) (c.loop-turn.all, c.loop-turn.known) c.loop-turn.c
    (row (λ b us. taking (enumerator_turn b us) us) (length c.args.c.now) (c.args.first, c.args.known.now) c.args.c.now) over c.loop-turn.invariant))
    (gives-closed c.loop-turn.all c.loop-turn.known c.loop-turn.c c.closed.result c.closed.new.c c.closed.ensures)

pub returns-in-Err : goal.returns-in-Err
unfolding more_enumerators enumerator_turn
returns-in-Err c =
    let here : sees comma c.loop-turn.c ≡ true = search rules in
    breaks enumerator_turn closed (c.len-turn-end.result - c.loop-turn._turn) (c.loop-turn.all, c.loop-turn.known) c.loop-turn.c
    (row (λ b us. taking (enumerator_turn b us) us) (length c.args.c.now) (c.args.first, c.args.known.now) c.args.c.now)
    (next_enumerator c.loop-turn.known c.loop-turn.c) (λ e. pure (c.loop-turn.all ++ e.0 ∷ [], e.1)) refl
    (open-at-comma (c.loop-turn.all, c.loop-turn.known) c.loop-turn.c here) c.loop-turn.invariant c.in-Err.stop c.in-Err.ensures

pub returns-then-len-left : goal.returns-then-len-left
unfolding more_enumerators enumerator_turn
returns-then-len-left c =
    let here : sees comma c.loop-turn.c ≡ true = search rules in
    let read : enumerator_turn (c.loop-turn.all, c.loop-turn.known) c.loop-turn.c ≡ Some ((c.loop-turn.all ++ c.in-Ok.e ∷ [], c.next_enumerator.new.known), c.next_enumerator.new.c) = search rules in
    let longer : length c.loop-turn.c ≤ length c.next_enumerator.new.c = search rules in
    stalls enumerator_turn closed (c.len-turn-end.result - c.loop-turn._turn) (c.loop-turn.all, c.loop-turn.known) (c.loop-turn.all ++ c.in-Ok.e ∷ [], c.next_enumerator.new.known) c.loop-turn.c c.next_enumerator.new.c
    (row (λ b us. taking (enumerator_turn b us) us) (length c.args.c.now) (c.args.first, c.args.known.now) c.args.c.now) read longer
    (open-at-comma (c.loop-turn.all, c.loop-turn.known) c.loop-turn.c here) c.loop-turn.invariant

pub loop-turn-preserved : goal.loop-turn-preserved
unfolding enumerator_turn
loop-turn-preserved c =
    let read : enumerator_turn (c.loop-turn.all, c.loop-turn.known) c.loop-turn.c ≡ Some ((c.push.new.self, c.next_enumerator.new.known), c.next_enumerator.new.c) = search rules in
    let shorter : length c.next_enumerator.new.c < length c.loop-turn.c = search rules in
    row-goes-on enumerator_turn c.len-turn-end.result c.loop-turn._turn (c.loop-turn.all, c.loop-turn.known) (c.push.new.self, c.next_enumerator.new.known) c.loop-turn.c c.next_enumerator.new.c
    (row (λ b us. taking (enumerator_turn b us) us) (length c.args.c.now) (c.args.first, c.args.known.now) c.args.c.now) c.loop-turn-test.true read shorter c.loop-turn.invariant

pub returns : goal.returns
unfolding more_enumerators
returns c =
    subst (λ o. Gives o c.closed-2.result c.loop-turn.known c.closed-2.new.c)
    (sym (ends enumerator_turn closed c.len-turn-end.result c.loop-turn._turn (c.loop-turn.all, c.loop-turn.known) c.loop-turn.c
    (row (λ b us. taking (enumerator_turn b us) us) (length c.args.c.now) (c.args.first, c.args.known.now) c.args.c.now) c.loop-turn-test.false c.loop-turn.invariant))
    (gives-closed c.loop-turn.all c.loop-turn.known c.loop-turn.c c.closed-2.result c.closed-2.new.c c.closed-2.ensures)
