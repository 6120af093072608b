use Rattle.std.proofs.Common.{◌≡◌, refl, subst, arith, rules, Ok}
use Rattle.std.proofs.lemmas.Result.{err_from_is_err_and}
use Rattle.cc_whole_tokens.specs.declared.mark.Mark.TheVariants as mark
use Rattle.cc_whole_reading.specs.Constants.{keeps}
use Rattle.cc_whole_reading.specs.Parse.{past, sees, Fails}
use Rattle.cc_whole_read_items.specs.ReadItems.{pair}
use Rattle.cc_whole_reading.proofs.Steps.{loop_stops, loop_ends, loop_fails, loop_next}
use Rattle.cc_whole_read_items.proofs.initial.more_pairs.Goals as goal

pub returns-then-not-sees : goal.returns-then-not-sees
returns-then-not-sees c = loop_stops (sees mark.Comma) (past (pair (keeps c.args.constants))) _ _ _ _ _ _ _ _ c.loop-turn.invariant c.len-turn-end.ensures refl (search rules)

pub returns-in_err-pair : goal.returns-in_err-pair
returns-in_err-pair c =
    let p = err_from_is_err_and c.from_residual.result c.from_residual.ensures.1 in
    rw (p.1, p.2)
    (loop_fails (sees mark.Comma) (past (pair (keeps c.args.constants))) _ _ _ _ _ _ _ _ c.loop-turn.invariant c.len-turn-end.ensures refl _ (omega arith) (search rules)
    (subst (λ l. Fails (pair (keeps c.args.constants) l) c.in_err-pair.field-0.0) c.skip.ensures c.in_err-pair.ensures))

pub loop-turn-preserved : goal.loop-turn-preserved
loop-turn-preserved c =
    loop_next (sees mark.Comma) (past (pair (keeps c.args.constants))) _ _ _ _ _ _ _ _ c.loop-turn.invariant c.len-turn-end.ensures refl c.in_ok-pair.field-0 _ _ (omega arith) (search rules)
    (subst (λ l. pair (keeps c.args.constants) l ≡ Ok (c.in_ok-pair.field-0, c.pair.new.c)) c.skip.ensures c.in_ok-pair.ensures) (search rules)

pub returns : goal.returns
returns c = loop_ends (sees mark.Comma) (past (pair (keeps c.args.constants))) _ _ _ _ _ _ _ _ c.loop-turn.invariant c.len-turn-end.ensures refl (omega arith)
