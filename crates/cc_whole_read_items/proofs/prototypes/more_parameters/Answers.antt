use Rattle.std.proofs.Common.{◌≡◌, refl, subst, arith, rules, Ok}
use Rattle.std.proofs.lemmas.Result.{err_from_is_err_and}
use Rattle.cc_whole_tokens.specs.declared.mark.Mark.TheVariants as mark
use Rattle.cc_whole_reading.specs.Parse.{past, sees, Fails}
use Rattle.cc_whole_read_items.specs.ReadItems.{parameter}
use Rattle.cc_whole_reading.proofs.Steps.{loop_stops, loop_ends, loop_fails, loop_next}
use Rattle.cc_whole_read_items.proofs.prototypes.more_parameters.Goals as goal

pub returns-then-not-sees : goal.returns-then-not-sees
returns-then-not-sees c = loop_stops (sees mark.Comma) (past parameter) _ _ _ _ _ _ _ _ c.loop-turn.invariant c.len-turn-end.ensures refl (search rules)

pub returns-in_err-parameter : goal.returns-in_err-parameter
returns-in_err-parameter c =
    let p = err_from_is_err_and c.from_residual.result c.from_residual.ensures.1 in
    rw (p.1, p.2)
    (loop_fails (sees mark.Comma) (past parameter) _ _ _ _ _ _ _ _ c.loop-turn.invariant c.len-turn-end.ensures refl _ (omega arith) (search rules)
    (subst (λ l. Fails (parameter l) c.in_err-parameter.field-0.0) c.skip.ensures c.in_err-parameter.ensures))

pub loop-turn-preserved : goal.loop-turn-preserved
loop-turn-preserved c =
    loop_next (sees mark.Comma) (past parameter) _ _ _ _ _ _ _ _ c.loop-turn.invariant c.len-turn-end.ensures refl c.in_ok-parameter.field-0 _ _ (omega arith) (search rules)
    (subst (λ l. parameter l ≡ Ok (c.in_ok-parameter.field-0, c.parameter.new.c)) c.skip.ensures c.in_ok-parameter.ensures) (search rules)

pub returns : goal.returns
returns c = loop_ends (sees mark.Comma) (past parameter) _ _ _ _ _ _ _ _ c.loop-turn.invariant c.len-turn-end.ensures refl (omega arith)
