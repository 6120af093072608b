use Rattle.cf_lowerable_ready.specs.Scenes.{knowing}
use Rattle.cf_lowerable_ready.proofs.Forgotten.{forget_step, all_forgotten, forgot_act, forgot_set, forgot_if, forgot_loop, forgot_switch, forgot_case, forgot_default, forgot_break, forgot_continue, forgot_return, forgot_parts}
use Rattle.cf_lowerable_ready.proofs.forgets.+forgets.Goals as goal

-- ---- the loop

pub forget-loop-s-preserved : goal.forget-loop-s-preserved
forget-loop-s-preserved t c =
    let x = c.args.x.now in
    forget_step x c.as_slice-s-items.result.now c.loop-s.s-index c.s-item.result (knowing x c.loop-s.cs) (knowing x c.forget_one.new.cs) _ c.loop-s-test.true c.s-item.is
    c.forget_one.ensures c.loop-s.invariant

pub forget-returns : goal.forget-returns
forget-returns t c =
    let x = c.args.x.now in
    all_forgotten x c.as_slice-s-items.result.now c.args.all.now c.loop-s.s-index (knowing x c.args.cs.now) (knowing x c.loop-s.cs) c.as_slice-s-items.ensures c.loop-s-test.false
    c.loop-s.invariant

-- ---- one statement

pub forget_one-returns-in-Set : goal.forget_one-returns-in-Set
forget_one-returns-in-Set t c =
    let x = c.args.x.now in
    forgot_set x c.args.s.now (knowing x c.args.cs.now) _ _ (knowing x c.clear.new.self) c.in-Set.is (c.clear.ensures x.tables.now)

pub forget_one-returns-in-If : goal.forget_one-returns-in-If
forget_one-returns-in-If t c =
    let x = c.args.x.now in
    forgot_if x c.args.s.now (knowing x c.args.cs.now) _ _ _ (knowing x c.forget.new.cs) (knowing x c.forget-in-If.new.cs) c.in-If.is c.forget.ensures c.forget-in-If.ensures

pub forget_one-returns-in-Loop : goal.forget_one-returns-in-Loop
forget_one-returns-in-Loop t c =
    let x = c.args.x.now in
    forgot_loop x c.args.s.now (knowing x c.args.cs.now) _ _ (knowing x c.forget-in-Loop.new.cs) (knowing x c.forget-in-Loop-2.new.cs) c.in-Loop.is c.forget-in-Loop.ensures
    c.forget-in-Loop-2.ensures

pub forget_one-returns-in-Switch : goal.forget_one-returns-in-Switch
forget_one-returns-in-Switch t c =
    let x = c.args.x.now in
    forgot_switch x c.args.s.now (knowing x c.args.cs.now) _ _ (knowing x c.forget-in-Switch.new.cs) c.in-Switch.is c.forget-in-Switch.ensures

pub forget_one-returns-in-Parts : goal.forget_one-returns-in-Parts
forget_one-returns-in-Parts t c =
    let x = c.args.x.now in
    forgot_parts x c.args.s.now (knowing x c.args.cs.now) _ (knowing x c.clear_all.new.self) c.in-Parts.is (c.clear_all.ensures x.tables.now)

pub forget_one-returns-in-Act : goal.forget_one-returns-in-Act
forget_one-returns-in-Act t c = forgot_act c.args.x.now c.args.s.now (knowing c.args.x.now c.args.cs.now) _ c.in-Act.is

pub forget_one-returns-in-Case : goal.forget_one-returns-in-Case
forget_one-returns-in-Case t c = forgot_case c.args.x.now c.args.s.now (knowing c.args.x.now c.args.cs.now) _ c.in-Case.is

pub forget_one-returns-in-Default : goal.forget_one-returns-in-Default
forget_one-returns-in-Default t c = forgot_default c.args.x.now c.args.s.now (knowing c.args.x.now c.args.cs.now) c.in-Default.is

pub forget_one-returns-in-Break : goal.forget_one-returns-in-Break
forget_one-returns-in-Break t c = forgot_break c.args.x.now c.args.s.now (knowing c.args.x.now c.args.cs.now) c.in-Break.is

pub forget_one-returns-in-Continue : goal.forget_one-returns-in-Continue
forget_one-returns-in-Continue t c = forgot_continue c.args.x.now c.args.s.now (knowing c.args.x.now c.args.cs.now) c.in-Continue.is

pub forget_one-returns-in-Return : goal.forget_one-returns-in-Return
forget_one-returns-in-Return t c = forgot_return c.args.x.now c.args.s.now (knowing c.args.x.now c.args.cs.now) _ c.in-Return.is
