use Rattle.std.proofs.Common.{Some, true, false, ap, refl}
use Rattle.cf_core.specs.FromClasses.{signature_of}
use Rattle.cf_lower_held.proofs.Views.{is-Act, is-Set, is-If, is-Loop, is-Switch, is-Case, is-Default, is-Break, is-Continue, is-Return, is-Parts}
use Rattle.cf_lowerable_ready.specs.Contents.{known}
use Rattle.cf_lowerable_ready.specs.Scenes.{knowing, locals_in, result_in, statements_in}
use Rattle.cf_lowerable_ready.proofs.StepLaws.{steps_next, steps_stop, steps_ended, begins_so, step_at, answer_at, branch_goes, loop_goes, switch_goes}
use Rattle.cf_lowerable_ready.proofs.statements.+statements.Goals as goal

-- ---- statements in order

pub statements-returns-then-not-good : goal.statements-returns-then-not-good
statements-returns-then-not-good t c =
    let x = c.args.x.now in
    steps_stop x c.as_slice-s-items.result.now c.loop-s.s-index c.s-item.result c.loop-s-test.true c.s-item.is (knowing x c.loop-s.cs) (knowing x c.statement.new.cs) _ c.in_ok-good.good
    c.in_ok-good.ensures c.loop-s.invariant c.args.all.now (knowing x c.args.cs.now) c.if-not-good.true refl c.as_slice-s-items.ensures

pub statements-loop-s-preserved : goal.statements-loop-s-preserved
statements-loop-s-preserved t c =
    let x = c.args.x.now in
    steps_next x c.as_slice-s-items.result.now c.loop-s.s-index c.s-item.result c.loop-s-test.true c.s-item.is (knowing x c.loop-s.cs) (knowing x c.statement.new.cs) _ c.in_ok-good.good
    c.in_ok-good.ensures c.loop-s.invariant c.if-not-good.false

pub statements-returns : goal.statements-returns
statements-returns t c =
    let x = c.args.x.now in
    steps_ended x c.as_slice-s-items.result.now c.args.all.now c.loop-s.s-index (knowing x c.args.cs.now) (knowing x c.loop-s.cs) c.as_slice-s-items.ensures c.loop-s-test.false
    c.loop-s.invariant

pub begins-returns : goal.begins-returns
begins-returns t c =
    let x = c.args.x.now in
    begins_so x c.args.all.now (knowing x c.statements.new.cs) (knowing x c.new-inner.result) c.in_ok-good.good (c.new-inner.ensures x.tables.now) c.in_ok-good.ensures

pub switched-returns : goal.switched-returns
switched-returns t c =
    let x = c.args.x.now in
    switch_goes (locals_in x) (result_in x) c.args.register (statements_in x c.args.all.now) (knowing x c.args.cs.now) (knowing x c.forget.new.cs) (known x.tables.now c.held-content.result)
    c.is_integer-tested.result c.in_ok-good.good c.both.result c.held-content.ensures (c.is_integer-tested.ensures x.tables.now) c.in_ok-good.ensures c.both.ensures c.forget.ensures

-- ---- one statement, by its form

pub statement-returns-in-Act : goal.statement-returns-in-Act
statement-returns-in-Act t c =
    let x = c.args.x.now in
    let s = c.args.s.now in
    let g = knowing x c.args.cs.now in
    let is = is-Act x.tables.now (signature_of x.tables.now) s c.in-Act.action c.in-Act.is in
    answer_at x s _ c.acts.result g g is c.acts.ensures

pub statement-returns-in-Set : goal.statement-returns-in-Set
statement-returns-in-Set t c =
    let x = c.args.x.now in
    let s = c.args.s.now in
    let g = knowing x c.args.cs.now in
    let is = is-Set x.tables.now (signature_of x.tables.now) s c.in-Set.register c.in-Set.action c.in-Set.is in
    answer_at x s _ c.sets.result g (knowing x c.sets.new.cs) is c.sets.ensures

pub statement-returns-in_ok-meet_if-in-If : goal.statement-returns-in_ok-meet_if-in-If
statement-returns-in_ok-meet_if-in-If t c =
    let x = c.args.x.now in
    let s = c.args.s.now in
    let g = knowing x c.args.cs.now in
    let is = is-If x.tables.now (signature_of x.tables.now) s c.in-If.register c.in-If.yes c.in-If.no c.in-If.is in
    step_at x s _ c.all_three-good.result g (knowing x c.meet_if.new.cs) is
    (branch_goes (locals_in x) (result_in x) c.in-If.register (statements_in x c.in-If.yes) (statements_in x c.in-If.no) g (knowing x c.in_ok-other-in-If.other) _ _ (knowing x c.meet_if.new.cs)
    (known x.tables.now c.held-content.result) c.is_integer-tested.result c.in_ok-first-in-If.first c.in_ok-second-in-If.second c.all_three-good.result c.held-content.ensures
    (c.is_integer-tested.ensures x.tables.now) (c.in_ok-other-in-If.ensures x.tables.now) c.in_ok-first-in-If.ensures c.in_ok-second-in-If.ensures c.all_three-good.ensures
    c.in_ok-meet_if-in-If.ensures)

pub statement-returns-in_ok-second-in-Loop : goal.statement-returns-in_ok-second-in-Loop
statement-returns-in_ok-second-in-Loop t c =
    let x = c.args.x.now in
    let s = c.args.s.now in
    let g = knowing x c.args.cs.now in
    let is = is-Loop x.tables.now (signature_of x.tables.now) s c.in-Loop.body c.in-Loop.next c.in-Loop.is in
    step_at x s _ c.both.result g (knowing x c.clear_all.new.self) is
    (loop_goes (locals_in x) (result_in x) (statements_in x c.in-Loop.body) (statements_in x c.in-Loop.next) g (knowing x c.clear_all.new.self) c.in_ok-first-in-Loop.first
    c.in_ok-second-in-Loop.second c.both.result c.in_ok-first-in-Loop.ensures c.in_ok-second-in-Loop.ensures c.both.ensures (c.clear_all.ensures x.tables.now))

pub statement-returns-in-Switch : goal.statement-returns-in-Switch
statement-returns-in-Switch t c =
    let x = c.args.x.now in
    let s = c.args.s.now in
    let g = knowing x c.args.cs.now in
    let is = is-Switch x.tables.now (signature_of x.tables.now) s c.in-Switch.register c.in-Switch.body c.in-Switch.is in
    answer_at x s _ c.switched.result g (knowing x c.switched.new.cs) is c.switched.ensures

pub statement-returns-in-Case : goal.statement-returns-in-Case
statement-returns-in-Case t c =
    let x = c.args.x.now in
    let s = c.args.s.now in
    let g = knowing x c.args.cs.now in
    let is = is-Case x.tables.now (signature_of x.tables.now) s _ c.in-Case.is in
    step_at x s _ true g (knowing x c.clear_all-in-Case.new.self) is (ap Some (c.clear_all-in-Case.ensures x.tables.now))

pub statement-returns-in-Default : goal.statement-returns-in-Default
statement-returns-in-Default t c =
    let x = c.args.x.now in
    let s = c.args.s.now in
    let g = knowing x c.args.cs.now in
    let is = is-Default x.tables.now (signature_of x.tables.now) s c.in-Default.is in
    step_at x s _ true g (knowing x c.clear_all-in-Default.new.self) is (ap Some (c.clear_all-in-Default.ensures x.tables.now))

pub statement-returns-in-Break : goal.statement-returns-in-Break
statement-returns-in-Break t c =
    let x = c.args.x.now in
    let s = c.args.s.now in
    let g = knowing x c.args.cs.now in
    let is = is-Break x.tables.now (signature_of x.tables.now) s c.in-Break.is in
    step_at x s _ true g g is refl

pub statement-returns-in-Continue : goal.statement-returns-in-Continue
statement-returns-in-Continue t c =
    let x = c.args.x.now in
    let s = c.args.s.now in
    let g = knowing x c.args.cs.now in
    let is = is-Continue x.tables.now (signature_of x.tables.now) s c.in-Continue.is in
    step_at x s _ true g g is refl

pub statement-returns-in-Return : goal.statement-returns-in-Return
statement-returns-in-Return t c =
    let x = c.args.x.now in
    let s = c.args.s.now in
    let g = knowing x c.args.cs.now in
    let is = is-Return x.tables.now (signature_of x.tables.now) s c.in-Return.register c.in-Return.is in
    answer_at x s _ c.gives.result g g is c.gives.ensures

pub statement-returns-in-Parts : goal.statement-returns-in-Parts
statement-returns-in-Parts t c =
    let x = c.args.x.now in
    let s = c.args.s.now in
    let g = knowing x c.args.cs.now in
    let is = is-Parts x.tables.now (signature_of x.tables.now) s _ c.in-Parts.is in
    step_at x s _ false g g is refl
