use Rattle.std.proofs.Common.{refl, ap, ◌∙◌}
use Rattle.cf_lowerable_open.specs.Objects.{behind, behind_all, placed}
use Rattle.cf_lowerable_open.specs.Views.{holding, statements_in}
use Rattle.cf_lowerable_open.proofs.Forms.{when_act, when_set, when_if, when_loop, when_switch, when_case, when_default, when_break, when_continue, when_return, when_parts}
use Rattle.cf_lowerable_open.proofs.Holding.{shared_is}
use Rattle.cf_lowerable_open.proofs.Steps.{all_behind, behind_step}
use Rattle.cf_lowerable_open.proofs.behind.+behind.Goals as goal

pub go_behind_all-loop-s-preserved : goal.go_behind_all-loop-s-preserved
go_behind_all-loop-s-preserved t c =
    behind_step c.args.x.now c.as_slice-s-items.result.now c.loop-s.s-index c.s-item.result (holding c.loop-s.g) (holding c.go_behind.new.g) _ c.loop-s-test.true c.s-item.is
    c.in_ok-go_behind.ensures c.loop-s.invariant

pub go_behind_all-returns : goal.go_behind_all-returns
go_behind_all-returns t c =
    all_behind c.args.x.now c.as_slice-s-items.result.now c.args.all.now c.loop-s.s-index (holding c.args.g.now) (holding c.loop-s.g) c.as_slice-s-items.ensures
    c.loop-s-test.false c.loop-s.invariant

pub go_behind-returns-in-Act : goal.go_behind-returns-in-Act
go_behind-returns-in-Act t c = when_act c.args.x.now c.args.s.now (λ p. behind p (holding c.args.g.now)) _ _ c.in-Act.is refl

pub go_behind-returns-in_ok-place-in-Set : goal.go_behind-returns-in_ok-place-in-Set
go_behind-returns-in_ok-place-in-Set t c = when_set c.args.x.now c.args.s.now (λ p. behind p (holding c.args.g.now)) _ _ _ c.in-Set.is (c.in_ok-place-in-Set.ensures ∙ ap (placed (holding c.args.g.now) c.in-Set.register) c.object_given.ensures)

pub go_behind-returns-in_ok-go_behind_all-in-If-2 : goal.go_behind-returns-in_ok-go_behind_all-in-If-2
go_behind-returns-in_ok-go_behind_all-in-If-2 t c = when_if c.args.x.now c.args.s.now (λ p. behind p (holding c.args.g.now)) _ _ _ _ c.in-If.is (c.share.ensures ∙ shared_is (holding c.go_behind_all.new.g) _ (holding c.go_behind_all-in-If.new.g) _ c.in_ok-go_behind_all-in-If.ensures (c.in_ok-go_behind_all-in-If-2.ensures ∙ ap (behind_all (statements_in c.args.x.now c.in-If.no)) c.in_ok-other-in-If.ensures))

pub go_behind-returns-in-Loop : goal.go_behind-returns-in-Loop
go_behind-returns-in-Loop t c = when_loop c.args.x.now c.args.s.now (λ p. behind p (holding c.args.g.now)) _ _ _ c.in-Loop.is c.clear_all.ensures

pub go_behind-returns-in-Switch : goal.go_behind-returns-in-Switch
go_behind-returns-in-Switch t c = when_switch c.args.x.now c.args.s.now (λ p. behind p (holding c.args.g.now)) _ _ _ c.in-Switch.is c.forget.ensures

pub go_behind-returns-in-Case : goal.go_behind-returns-in-Case
go_behind-returns-in-Case t c = when_case c.args.x.now c.args.s.now (λ p. behind p (holding c.args.g.now)) _ _ c.in-Case.is c.clear_all-in-Case.ensures

pub go_behind-returns-in-Default : goal.go_behind-returns-in-Default
go_behind-returns-in-Default t c = when_default c.args.x.now c.args.s.now (λ p. behind p (holding c.args.g.now)) _ c.in-Default.is c.clear_all-in-Default.ensures

pub go_behind-returns-in-Break : goal.go_behind-returns-in-Break
go_behind-returns-in-Break t c = when_break c.args.x.now c.args.s.now (λ p. behind p (holding c.args.g.now)) _ c.in-Break.is refl

pub go_behind-returns-in-Continue : goal.go_behind-returns-in-Continue
go_behind-returns-in-Continue t c = when_continue c.args.x.now c.args.s.now (λ p. behind p (holding c.args.g.now)) _ c.in-Continue.is refl

pub go_behind-returns-in-Return : goal.go_behind-returns-in-Return
go_behind-returns-in-Return t c = when_return c.args.x.now c.args.s.now (λ p. behind p (holding c.args.g.now)) _ _ c.in-Return.is refl

pub go_behind-returns-in-Parts : goal.go_behind-returns-in-Parts
go_behind-returns-in-Parts t c = when_parts c.args.x.now c.args.s.now (λ p. behind p (holding c.args.g.now)) _ _ c.in-Parts.is refl
