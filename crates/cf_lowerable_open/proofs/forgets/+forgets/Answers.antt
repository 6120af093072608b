use Rattle.std.proofs.Common.{refl}
use Rattle.cf_plain_kept.specs.Kept.{sets}
use Rattle.cf_lowerable_open.specs.Objects.{without}
use Rattle.cf_lowerable_open.specs.Views.{holding, statements_in}
use Rattle.cf_lowerable_open.proofs.Forms.{when_act, when_set, when_if, when_loop, when_switch, when_case, when_default, when_break, when_continue, when_return, when_parts}
use Rattle.cf_lowerable_open.proofs.Steps.{all_forgotten, both_forgotten, forget_step}
use Rattle.cf_lowerable_open.proofs.forgets.+forgets.Goals as goal

pub forget-loop-s-preserved : goal.forget-loop-s-preserved
forget-loop-s-preserved t c =
    forget_step c.args.x.now c.as_slice-s-items.result.now c.loop-s.s-index c.s-item.result (holding c.loop-s.g) (holding c.forget_one.new.g) _ c.loop-s-test.true c.s-item.is
    c.forget_one.ensures c.loop-s.invariant

pub forget-returns : goal.forget-returns
forget-returns t c =
    all_forgotten c.args.x.now c.as_slice-s-items.result.now c.args.all.now c.loop-s.s-index (holding c.args.g.now) (holding c.loop-s.g) c.as_slice-s-items.ensures
    c.loop-s-test.false c.loop-s.invariant

pub forget_one-returns-in-Act : goal.forget_one-returns-in-Act
forget_one-returns-in-Act t c = when_act c.args.x.now c.args.s.now (λ p. without (λ r. sets r p) (holding c.args.g.now)) _ _ c.in-Act.is refl

pub forget_one-returns-in-Set : goal.forget_one-returns-in-Set
forget_one-returns-in-Set t c = when_set c.args.x.now c.args.s.now (λ p. without (λ r. sets r p) (holding c.args.g.now)) _ _ _ c.in-Set.is c.clear.ensures

pub forget_one-returns-in-If : goal.forget_one-returns-in-If
forget_one-returns-in-If t c = when_if c.args.x.now c.args.s.now (λ p. without (λ r. sets r p) (holding c.args.g.now)) _ _ _ _ c.in-If.is (both_forgotten c.args.x.now (statements_in c.args.x.now c.in-If.yes) (statements_in c.args.x.now c.in-If.no) (holding c.args.g.now) (holding c.forget.new.g) (holding c.forget-in-If.new.g) c.forget.ensures c.forget-in-If.ensures)

pub forget_one-returns-in-Loop : goal.forget_one-returns-in-Loop
forget_one-returns-in-Loop t c = when_loop c.args.x.now c.args.s.now (λ p. without (λ r. sets r p) (holding c.args.g.now)) _ _ _ c.in-Loop.is (both_forgotten c.args.x.now (statements_in c.args.x.now c.in-Loop.body) (statements_in c.args.x.now c.in-Loop.next) (holding c.args.g.now) (holding c.forget-in-Loop.new.g) (holding c.forget-in-Loop-2.new.g) c.forget-in-Loop.ensures c.forget-in-Loop-2.ensures)

pub forget_one-returns-in-Switch : goal.forget_one-returns-in-Switch
forget_one-returns-in-Switch t c = when_switch c.args.x.now c.args.s.now (λ p. without (λ r. sets r p) (holding c.args.g.now)) _ _ _ c.in-Switch.is c.forget-in-Switch.ensures

pub forget_one-returns-in-Case : goal.forget_one-returns-in-Case
forget_one-returns-in-Case t c = when_case c.args.x.now c.args.s.now (λ p. without (λ r. sets r p) (holding c.args.g.now)) _ _ c.in-Case.is refl

pub forget_one-returns-in-Default : goal.forget_one-returns-in-Default
forget_one-returns-in-Default t c = when_default c.args.x.now c.args.s.now (λ p. without (λ r. sets r p) (holding c.args.g.now)) _ c.in-Default.is refl

pub forget_one-returns-in-Break : goal.forget_one-returns-in-Break
forget_one-returns-in-Break t c = when_break c.args.x.now c.args.s.now (λ p. without (λ r. sets r p) (holding c.args.g.now)) _ c.in-Break.is refl

pub forget_one-returns-in-Continue : goal.forget_one-returns-in-Continue
forget_one-returns-in-Continue t c = when_continue c.args.x.now c.args.s.now (λ p. without (λ r. sets r p) (holding c.args.g.now)) _ c.in-Continue.is refl

pub forget_one-returns-in-Return : goal.forget_one-returns-in-Return
forget_one-returns-in-Return t c = when_return c.args.x.now c.args.s.now (λ p. without (λ r. sets r p) (holding c.args.g.now)) _ _ c.in-Return.is refl

pub forget_one-returns-in-Parts : goal.forget_one-returns-in-Parts
forget_one-returns-in-Parts t c = when_parts c.args.x.now c.args.s.now (λ p. without (λ r. sets r p) (holding c.args.g.now)) _ _ c.in-Parts.is c.clear_all.ensures
