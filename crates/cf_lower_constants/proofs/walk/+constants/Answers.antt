use Rattle.std.proofs.Common.{ap, ◌∙◌}
use Rattle.cf_lower.specs.Constants.{Known, know}
use Rattle.cf_lower_stmt.specs.Steps.{written}
use Rattle.cf_lower_constants.specs.Sites.{statements_at, told_all}
use Rattle.cf_lower_constants.proofs.Forms.{stored_act, stored_set, stored_if, stored_loop, stored_switch, stored_case, stored_default, stored_break, stored_continue, stored_return, stored_parts, known_act, known_set, known_if, known_loop, known_switch, known_case, known_default, known_break, known_continue, known_return, known_parts}
use Rattle.cf_lower_constants.proofs.Lists.{knows_nothing}
use Rattle.cf_lower_constants.proofs.Turns.{known_all, known_more, stored_all, stored_more, untold_code, true_code, false_code, untold_known, true_known, false_known}
use Rattle.cf_lower_constants.proofs.walk.+constants.Goals as goal

-- ---- all statements

pub constants-loop-s-preserved : goal.constants-loop-s-preserved
constants-loop-s-preserved t c =
    let x = c.args.x.now in
    record {
      code = stored_more x c.as_slice-s-items.result.now c.loop-s.s-index c.s-item.result c.loop-s-test.true c.s-item.is (told_all x c.loop-s.known) (told_all x c.constant.new.known)
          c.in_ok-constant.ensures.known (written c.loop-s.code) (written c.constant.new.code) _ c.in_ok-constant.ensures.code c.loop-s.invariant.code;
      known = known_more x c.as_slice-s-items.result.now c.loop-s.s-index c.s-item.result c.loop-s-test.true c.s-item.is (told_all x c.loop-s.known) (told_all x c.constant.new.known)
          c.in_ok-constant.ensures.known _ c.loop-s.invariant.known;
    }

pub constants-returns : goal.constants-returns
constants-returns t c =
    let x = c.args.x.now in
    record {
      code = stored_all x c.as_slice-s-items.result.now c.args.all.now c.as_slice-s-items.ensures c.loop-s.s-index c.loop-s-test.false (told_all x c.loop-s.known)
          (told_all x c.args.known.now) (written c.loop-s.code) (written c.args.code.now) c.loop-s.invariant.code;
      known = known_all x c.as_slice-s-items.result.now c.args.all.now c.as_slice-s-items.ensures c.loop-s.s-index c.loop-s-test.false (told_all x c.loop-s.known)
          (told_all x c.args.known.now) c.loop-s.invariant.known;
    }

-- ---- one statement, by its form

pub constant-returns-in_ok-done-in-Act : goal.constant-returns-in_ok-done-in-Act
constant-returns-in_ok-done-in-Act t c =
    let x = c.args.x.now in
    let g = told_all x c.args.known.now in
    record {
      code = stored_act x c.args.s.now g (written c.args.code.now) (written c.done.new.code) _ c.in-Act.is c.in_ok-done-in-Act.ensures;
      known = known_act x c.args.s.now g _ c.in-Act.is;
    }

pub constant-returns-in_ok-know-in-Set : goal.constant-returns-in_ok-know-in-Set
constant-returns-in_ok-know-in-Set t c =
    let x = c.args.x.now in
    let g = told_all x c.args.known.now in
    record {
      code = stored_set x c.args.s.now g (written c.args.code.now) (written c.args.code.now) _ _ c.in-Set.is;
      known = known_set x c.args.s.now g (told_all x c.know.new.self) _ _ c.in-Set.is
          (c.in_ok-know-in-Set.ensures x.tables.now ∙ ap (λ (k : Known). know g c.in-Set.register k) c.in_ok-given-in-Set.ensures);
    }

pub constant-returns-in-None : goal.constant-returns-in-None
constant-returns-in-None t c =
    let x = c.args.x.now in
    let g = told_all x c.args.known.now in
    let w = written c.args.code.now in
    let h = told_all x c.forget.new.self in
    let r = c.in-If.register in
    let yes = statements_at x c.in-If.yes in
    let no = statements_at x c.in-If.no in
    record {
      code = stored_if x c.args.s.now g w w r _ _ c.in-If.is (untold_code x g r yes no c.in_ok-truth-in-If.truth c.in_ok-truth-in-If.ensures w w c.in-None.is);
      known = known_if x c.args.s.now g h r _ _ c.in-If.is
          (untold_known x g r yes no c.in_ok-truth-in-If.truth c.in_ok-truth-in-If.ensures h c.in-None.is (knows_nothing x.tables.now c.forget.new.self c.forget.ensures));
    }

pub constant-returns-then-taken : goal.constant-returns-then-taken
constant-returns-then-taken t c =
    let x = c.args.x.now in
    let g = told_all x c.args.known.now in
    let w = written c.args.code.now in
    let r = c.in-If.register in
    let yes = statements_at x c.in-If.yes in
    let no = statements_at x c.in-If.no in
    record {
      code = stored_if x c.args.s.now g w _ r _ _ c.in-If.is
          (true_code x g r yes no c.in_ok-truth-in-If.truth c.in_ok-truth-in-If.ensures w _ c.in-Some.taken c.in-Some.is c.if-taken.true c.in_ok-constants-in-Some.ensures.code);
      known = known_if x c.args.s.now g _ r _ _ c.in-If.is
          (true_known x g r yes no c.in_ok-truth-in-If.truth c.in_ok-truth-in-If.ensures _ c.in-Some.taken c.in-Some.is c.if-taken.true c.in_ok-constants-in-Some.ensures.known);
    }

pub constant-returns-in_ok-constants-in-Some-2 : goal.constant-returns-in_ok-constants-in-Some-2
constant-returns-in_ok-constants-in-Some-2 t c =
    let x = c.args.x.now in
    let g = told_all x c.args.known.now in
    let w = written c.args.code.now in
    let r = c.in-If.register in
    let yes = statements_at x c.in-If.yes in
    let no = statements_at x c.in-If.no in
    record {
      code = stored_if x c.args.s.now g w _ r _ _ c.in-If.is
          (false_code x g r yes no c.in_ok-truth-in-If.truth c.in_ok-truth-in-If.ensures w _ c.in-Some.taken c.in-Some.is c.if-taken.false c.in_ok-constants-in-Some-2.ensures.code);
      known = known_if x c.args.s.now g _ r _ _ c.in-If.is
          (false_known x g r yes no c.in_ok-truth-in-If.truth c.in_ok-truth-in-If.ensures _ c.in-Some.taken c.in-Some.is c.if-taken.false c.in_ok-constants-in-Some-2.ensures.known);
    }

pub constant-returns-in-Loop : goal.constant-returns-in-Loop
constant-returns-in-Loop t c =
    let x = c.args.x.now in
    let g = told_all x c.args.known.now in
    let w = written c.args.code.now in
    record { code = stored_loop x c.args.s.now g w w _ _ c.in-Loop.is; known = known_loop x c.args.s.now g _ _ c.in-Loop.is }

pub constant-returns-in-Switch : goal.constant-returns-in-Switch
constant-returns-in-Switch t c =
    let x = c.args.x.now in
    let g = told_all x c.args.known.now in
    let w = written c.args.code.now in
    record { code = stored_switch x c.args.s.now g w w _ _ c.in-Switch.is; known = known_switch x c.args.s.now g _ _ c.in-Switch.is }

pub constant-returns-in-Case : goal.constant-returns-in-Case
constant-returns-in-Case t c =
    let x = c.args.x.now in
    let g = told_all x c.args.known.now in
    let w = written c.args.code.now in
    record { code = stored_case x c.args.s.now g w w _ c.in-Case.is; known = known_case x c.args.s.now g _ c.in-Case.is }

pub constant-returns-in-Default : goal.constant-returns-in-Default
constant-returns-in-Default t c =
    let x = c.args.x.now in
    let g = told_all x c.args.known.now in
    let w = written c.args.code.now in
    record { code = stored_default x c.args.s.now g w w c.in-Default.is; known = known_default x c.args.s.now g c.in-Default.is }

pub constant-returns-in-Break : goal.constant-returns-in-Break
constant-returns-in-Break t c =
    let x = c.args.x.now in
    let g = told_all x c.args.known.now in
    let w = written c.args.code.now in
    record { code = stored_break x c.args.s.now g w w c.in-Break.is; known = known_break x c.args.s.now g c.in-Break.is }

pub constant-returns-in-Continue : goal.constant-returns-in-Continue
constant-returns-in-Continue t c =
    let x = c.args.x.now in
    let g = told_all x c.args.known.now in
    let w = written c.args.code.now in
    record { code = stored_continue x c.args.s.now g w w c.in-Continue.is; known = known_continue x c.args.s.now g c.in-Continue.is }

pub constant-returns-in-Return : goal.constant-returns-in-Return
constant-returns-in-Return t c =
    let x = c.args.x.now in
    let g = told_all x c.args.known.now in
    let w = written c.args.code.now in
    record { code = stored_return x c.args.s.now g w w _ c.in-Return.is; known = known_return x c.args.s.now g _ c.in-Return.is }

pub constant-returns-in-Parts : goal.constant-returns-in-Parts
constant-returns-in-Parts t c =
    let x = c.args.x.now in
    let g = told_all x c.args.known.now in
    let w = written c.args.code.now in
    record { code = stored_parts x c.args.s.now g w w _ c.in-Parts.is; known = known_parts x c.args.s.now g _ c.in-Parts.is }
