use Rattle.std.proofs.Common.{◌∙◌, ◌+◌, List, drop, ap, sym, subst}
use Rattle.cf_core.specs.Core.{Core, sequence}
use Rattle.cf_run_tree.specs.declared.node.Node.{Node}
use Rattle.cf_run_tree.proofs.Views.{core-Declare, core-Sequence}
use Rattle.cf_base.specs.World.{Ran}
use Rattle.cf_core.specs.Run.{Did}
use Rattle.cf_core.specs.Statements.{passes, passes_all}
use Rattle.cf_run_tree.specs.Tree.{core_of}
use Rattle.cf_core_objects.specs.Answer.{Told, Stopped}
use Rattle.cf_core_objects.specs.Store.{state_of}
use Rattle.cf_core_objects.specs.Then.{◌▷◌}
use Rattle.cf_core_objects.proofs.ThenLaws.{told-err, told-ok, stops-on}
use Rattle.cf_core_run.specs.Labels.{row}
use Rattle.cf_core_run.proofs.LabelLaws.{passes-from, passes-end}
use Rattle.cf_core_run.proofs.switch.+pass_over.Goals as goal

pub pass_over-returns-in-Declare : goal.pass_over-returns-in-Declare
pass_over-returns-in-Declare t c = λ T p w.
    subst (λ (n : Core). Told (λ u. tt) c.pass_declared.result (state_of T c.pass_declared.new.entered c.pass_declared.new.objects) w (passes n (state_of T c.args.entered.now c.args.objects.now) w))
    (sym (ap (core_of T p) c.in-Declare.is ∙ core-Declare T p c.in-Declare.number c.in-Declare.ty c.in-Declare.start)) (c.pass_declared.ensures T p w)

pub pass_over-returns-in-Sequence : goal.pass_over-returns-in-Sequence
pass_over-returns-in-Sequence t c = λ T p w.
    subst (λ (n : Core). Told (λ u. tt) c.pass_all.result (state_of T c.pass_all.new.entered c.pass_all.new.objects) w (passes n (state_of T c.args.entered.now c.args.objects.now) w))
    (sym (ap (core_of T p) c.in-Sequence.is ∙ core-Sequence T p c.in-Sequence.all ∙ ap (λ (l : List Node). sequence (row T p l)) (sym c.as_slice.ensures))) (c.pass_all.ensures T p w)

pub pass_all-returns-in-Err : goal.pass_all-returns-in-Err
pass_all-returns-in-Err t c = λ T p w.
    subst (λ (x : Ran (Did (Unit {0}))). Stopped c.in-Err.stop w x)
    (sym (passes-from T p c.args.all.now c.loop-s.s-index c.s-item.result (state_of T c.loop-s.entered c.loop-s.objects) w c.loop-s-test.true c.s-item.is) ∙ c.loop-s.invariant T p w)
    (stops-on c.in-Err.stop (passes (core_of T p c.s-item.result) (state_of T c.loop-s.entered c.loop-s.objects) w) (λ u. passes_all (row T p (drop (c.loop-s.s-index + 1) c.args.all.now))) w
    (told-err (λ u. tt) c.pass_over.result c.in-Err.stop (state_of T c.pass_over.new.entered c.pass_over.new.objects) w _ c.in-Err.is (c.pass_over.ensures T p w)))

pub pass_all-loop-s-preserved : goal.pass_all-loop-s-preserved
pass_all-loop-s-preserved t c = λ T p w.
    sym (ap (λ r. r ▷ (λ u. passes_all (row T p (drop (c.loop-s.s-index + 1) c.args.all.now))))
    (told-ok (λ u. tt) c.pass_over.result tt (state_of T c.pass_over.new.entered c.pass_over.new.objects) w (passes (core_of T p c.s-item.result) (state_of T c.loop-s.entered c.loop-s.objects) w) c.in-Ok.is (c.pass_over.ensures T p w)))
    ∙ sym (passes-from T p c.args.all.now c.loop-s.s-index c.s-item.result (state_of T c.loop-s.entered c.loop-s.objects) w c.loop-s-test.true c.s-item.is) ∙ c.loop-s.invariant T p w

pub pass_all-returns : goal.pass_all-returns
pass_all-returns t c = λ T p w. sym (c.loop-s.invariant T p w) ∙ passes-end T p c.args.all.now c.loop-s.s-index (state_of T c.loop-s.entered c.loop-s.objects) w c.loop-s-test.false
