use Rattle.cf_core_run.proofs.NearLaws.{kept-nearer, spent-nearer, weight-Sequence, weight-Full, weight-Block, weight-Declare, weight-If, weight-Switch, weight-Case, weight-Default, weight-Break, weight-Continue, weight-Return}
use Rattle.cf_core_run.specs.Nearer.{weight, weights, marks_left}
use Rattle.cf_core.specs.Run.{◌>>=◌}
use Rattle.cf_core_store.specs.declared.results.Applied.TheVariants as applied
use Rattle.cf_core_store.specs.Values.{of_value}
use Rattle.cf_core_run.specs.Going.{full}
use Rattle.cf_core_run.specs.declared.mark.TestMark.TheVariants as test
use Rattle.cf_core_run.specs.Going.{go_if}
use Rattle.std.proofs.Common.{◌∙◌, List, None, ap, sym, map, arith, ◌+◌}
use Rattle.cf_core.specs.Calls.{Falls}
use Rattle.cf_core.specs.Core as nodes
use Rattle.cf_core.specs.Run.{gives}
use Rattle.cf_core.specs.View.{listed}
use Rattle.cf_run_tree.specs.declared.node.Node.{Node}
use Rattle.cf_run_tree.specs.Tree.{core_of, object_type}
use Rattle.cf_run_tree.proofs.Views.{core-Block, core-Sequence, core-Declare, core-Loop, core-Case, core-Default, core-Break, core-Continue, core-Return}
use Rattle.cf_core_objects.specs.Then.{◌▷◌}
use Rattle.cf_core_run.specs.Going.{from_flow, valued, performed, performed_all, cores, maybe_core, scoped, go_test}
use Rattle.cf_core_objects.specs.Store.{state_of}
use Rattle.cf_core_objects.specs.declared.answer.Stop.TheVariants as stop
use Rattle.cf_core_run.proofs.Laws.{flow-as, flow-stopped}
use Rattle.cf_core_run.proofs.Nodes.{no-flow}
use Rattle.cf_core_run.proofs.StatementLaws.{full-goes, if-goes, switch-goes}
use Rattle.cf_core_run.proofs.state.Machine.perform.Goals as goal
use Rattle.cf_core.specs.Calls.{Breaks, Continues}

pub returns-in-Full-clause-comes : goal.returns-in-Full-clause-comes
returns-in-Full-clause-comes c = λ p. flow-as p c.args.self.now (λ T. performed T p c.args.self.now.fuel (core_of T p c.args.s.now)) (λ T s w. full T p c.args.self.now.fuel (valued T p c.args.self.now.fuel (core_of T p c.in-Full.e) None) s w ▷ go_test T p c.args.self.now.fuel test.Statement) c.test.result c.test.new.self (c.test.ensures.comes p)
    (λ T w. full-goes T p c.args.self.now.fuel c.args.self.now.entered c.args.self.now.objects c.args.s.now c.in-Full.e w c.in-Full.is)

pub returns-in-Block-clause-comes : goal.returns-in-Block-clause-comes
returns-in-Block-clause-comes c = λ p. flow-as p c.args.self.now (λ T. performed T p c.args.self.now.fuel (core_of T p c.args.s.now)) (λ T. scoped T p c.args.self.now.fuel (performed_all T p c.args.self.now.fuel (cores T p c.as_slice.result.now))) c.block.result c.block.new.self (c.block.ensures.comes p)
    (λ T w. ap (λ n. performed T p c.args.self.now.fuel n (state_of T c.args.self.now.entered c.args.self.now.objects) w)
    (ap (core_of T p) c.in-Block.is ∙ core-Block T p c.in-Block.all ∙ ap (λ (l : List Node). nodes.block (listed (map (core_of T p) l))) (sym c.as_slice.ensures)))

pub returns-in-Sequence-clause-comes : goal.returns-in-Sequence-clause-comes
returns-in-Sequence-clause-comes c = λ p. record {
  same = λ T o. ap (λ n. from_flow T p c.args.self.now (performed T p c.args.self.now.fuel n) o)
      (ap (core_of T p) c.in-Sequence.is ∙ core-Sequence T p c.in-Sequence.all ∙ ap (λ (l : List Node). nodes.sequence (listed (map (core_of T p) l))) (sym c.as_slice-in-Sequence.ensures));
}

pub returns-in-Declare-clause-comes : goal.returns-in-Declare-clause-comes
returns-in-Declare-clause-comes c = λ p. flow-as p c.args.self.now (λ T. performed T p c.args.self.now.fuel (core_of T p c.args.s.now)) (λ T. performed T p c.args.self.now.fuel (nodes.declare c.in-Declare.number (object_type T c.in-Declare.ty) (core_of T p c.in-Declare.start))) c.declare.result c.declare.new.self (c.declare.ensures.comes p)
    (λ T w. ap (λ n. performed T p c.args.self.now.fuel n (state_of T c.args.self.now.entered c.args.self.now.objects) w) (ap (core_of T p) c.in-Declare.is ∙ core-Declare T p c.in-Declare.number c.in-Declare.ty c.in-Declare.start))

pub returns-in-If-clause-comes : goal.returns-in-If-clause-comes
returns-in-If-clause-comes c = λ p. flow-as p c.args.self.now (λ T. performed T p c.args.self.now.fuel (core_of T p c.args.s.now)) (λ T s w. full T p c.args.self.now.fuel (valued T p c.args.self.now.fuel (core_of T p c.in-If.condition) None >>= of_value T applied.Truth) s w ▷ go_if T p c.args.self.now.fuel c.in-If.yes c.in-If.no) c.test_by.result c.test_by.new.self (c.test_by.ensures.comes p)
    (λ T w. if-goes T p c.args.self.now.fuel c.args.self.now.entered c.args.self.now.objects c.args.s.now c.in-If.condition c.in-If.yes c.in-If.no w c.in-If.is)

pub returns-in-Loop-clause-comes : goal.returns-in-Loop-clause-comes
returns-in-Loop-clause-comes c = λ p. flow-as p c.args.self.now (λ T. performed T p c.args.self.now.fuel (core_of T p c.args.s.now)) (λ T. performed T p c.args.self.now.fuel (nodes.loop c.in-Loop.form (maybe_core T p c.in-Loop.condition) (maybe_core T p c.in-Loop.step) (core_of T p c.in-Loop.body))) c.start_loop.result c.start_loop.new.self (c.start_loop.ensures.comes p)
    (λ T w. ap (λ n. performed T p c.args.self.now.fuel n (state_of T c.args.self.now.entered c.args.self.now.objects) w) (ap (core_of T p) c.in-Loop.is ∙ core-Loop T p c.in-Loop.form c.in-Loop.condition c.in-Loop.step c.in-Loop.body))

pub returns-in-Case-clause-comes : goal.returns-in-Case-clause-comes
returns-in-Case-clause-comes c = λ p. flow-as p c.args.self.now (λ T. performed T p c.args.self.now.fuel (core_of T p c.args.s.now)) (λ T. gives Falls) c.ends.result c.ends.new.self (c.ends.ensures.comes p)
    (λ T w. ap (λ n. performed T p c.args.self.now.fuel n (state_of T c.args.self.now.entered c.args.self.now.objects) w) (ap (core_of T p) c.in-Case.is ∙ core-Case T p c.in-Case.field-0))

pub returns-in-Default-clause-comes : goal.returns-in-Default-clause-comes
returns-in-Default-clause-comes c = λ p. flow-as p c.args.self.now (λ T. performed T p c.args.self.now.fuel (core_of T p c.args.s.now)) (λ T. gives Falls) c.ends-in-Default.result c.ends-in-Default.new.self (c.ends-in-Default.ensures.comes p)
    (λ T w. ap (λ n. performed T p c.args.self.now.fuel n (state_of T c.args.self.now.entered c.args.self.now.objects) w) (ap (core_of T p) c.in-Default.is ∙ core-Default T p))

pub returns-in-Break-clause-comes : goal.returns-in-Break-clause-comes
returns-in-Break-clause-comes c = λ p. flow-as p c.args.self.now (λ T. performed T p c.args.self.now.fuel (core_of T p c.args.s.now)) (λ T. gives Breaks) c.ends-in-Break.result c.ends-in-Break.new.self (c.ends-in-Break.ensures.comes p)
    (λ T w. ap (λ n. performed T p c.args.self.now.fuel n (state_of T c.args.self.now.entered c.args.self.now.objects) w) (ap (core_of T p) c.in-Break.is ∙ core-Break T p))

pub returns-in-Continue-clause-comes : goal.returns-in-Continue-clause-comes
returns-in-Continue-clause-comes c = λ p. flow-as p c.args.self.now (λ T. performed T p c.args.self.now.fuel (core_of T p c.args.s.now)) (λ T. gives Continues) c.ends-in-Continue.result c.ends-in-Continue.new.self (c.ends-in-Continue.ensures.comes p)
    (λ T w. ap (λ n. performed T p c.args.self.now.fuel n (state_of T c.args.self.now.entered c.args.self.now.objects) w) (ap (core_of T p) c.in-Continue.is ∙ core-Continue T p))

pub returns-in-Return-clause-comes : goal.returns-in-Return-clause-comes
returns-in-Return-clause-comes c = λ p. flow-as p c.args.self.now (λ T. performed T p c.args.self.now.fuel (core_of T p c.args.s.now)) (λ T. performed T p c.args.self.now.fuel (nodes.give (maybe_core T p c.in-Return.value))) c.give.result c.give.new.self (c.give.ensures.comes p)
    (λ T w. ap (λ n. performed T p c.args.self.now.fuel n (state_of T c.args.self.now.entered c.args.self.now.objects) w) (ap (core_of T p) c.in-Return.is ∙ core-Return T p c.in-Return.value))

pub returns-in-Switch-clause-comes : goal.returns-in-Switch-clause-comes
returns-in-Switch-clause-comes c = λ p. flow-as p c.args.self.now (λ T. performed T p c.args.self.now.fuel (core_of T p c.args.s.now)) (λ T s w. full T p c.args.self.now.fuel (valued T p c.args.self.now.fuel (core_of T p c.in-Switch.e) None >>= of_value T applied.Used) s w ▷ go_test T p c.args.self.now.fuel (test.Switch c.as_slice-in-Switch.result)) c.test_by-in-Switch.result c.test_by-in-Switch.new.self (c.test_by-in-Switch.ensures.comes p)
    (λ T w. switch-goes T p c.args.self.now.fuel c.args.self.now.entered c.args.self.now.objects c.args.s.now c.in-Switch.e c.in-Switch.all c.as_slice-in-Switch.result w c.in-Switch.is c.as_slice-in-Switch.ensures)

pub returns-in_default-clause-comes : goal.returns-in_default-clause-comes
returns-in_default-clause-comes c = λ p.
    flow-stopped p c.args.self.now (λ T. performed T p c.args.self.now.fuel (core_of T p c.args.s.now)) stop.Malformed
    (λ T w. no-flow T p c.args.self.now.fuel c.args.s.now (state_of T c.args.self.now.entered c.args.self.now.objects) w
    (record {
      full = c.in_default.not-Full;
      block = c.in_default.not-Block;
      sequence = c.in_default.not-Sequence;
      declare = c.in_default.not-Declare;
      branch = c.in_default.not-If;
      loop = c.in_default.not-Loop;
      switch = c.in_default.not-Switch;
      case = c.in_default.not-Case;
      default = c.in_default.not-Default;
      leave = c.in_default.not-Break;
      continue = c.in_default.not-Continue;
      give = c.in_default.not-Return;
    }))

pub returns-in-Full-clause-nearer : goal.returns-in-Full-clause-nearer
returns-in-Full-clause-nearer c = λ p. kept-nearer p c.args.self.now.ticks (1 + weight c.args.s.now + marks_left c.args.self.now.stack.items) c.test.result c.test.new.self c.test.ensures.ticks (omega (arith, c.test.ensures.within p, ap weight c.in-Full.is ∙ weight-Full c.in-Full.e))

pub returns-in-Block-clause-nearer : goal.returns-in-Block-clause-nearer
returns-in-Block-clause-nearer c = λ p. kept-nearer p c.args.self.now.ticks (1 + weight c.args.s.now + marks_left c.args.self.now.stack.items) c.block.result c.block.new.self c.block.ensures.ticks (omega (arith, c.block.ensures.within p, ap weights c.as_slice.ensures, ap weight c.in-Block.is ∙ weight-Block c.in-Block.all))

pub returns-in-Declare-clause-nearer : goal.returns-in-Declare-clause-nearer
returns-in-Declare-clause-nearer c = λ p. kept-nearer p c.args.self.now.ticks (1 + weight c.args.s.now + marks_left c.args.self.now.stack.items) c.declare.result c.declare.new.self c.declare.ensures.ticks (omega (arith, c.declare.ensures.within p, ap weight c.in-Declare.is ∙ weight-Declare c.in-Declare.number c.in-Declare.ty c.in-Declare.start))

pub returns-in-If-clause-nearer : goal.returns-in-If-clause-nearer
returns-in-If-clause-nearer c = λ p. kept-nearer p c.args.self.now.ticks (1 + weight c.args.s.now + marks_left c.args.self.now.stack.items) c.test_by.result c.test_by.new.self c.test_by.ensures.ticks (omega (arith, c.test_by.ensures.within p, ap weight c.in-If.is ∙ weight-If c.in-If.condition c.in-If.yes c.in-If.no))

pub returns-in-Switch-clause-nearer : goal.returns-in-Switch-clause-nearer
returns-in-Switch-clause-nearer c = λ p. kept-nearer p c.args.self.now.ticks (1 + weight c.args.s.now + marks_left c.args.self.now.stack.items) c.test_by-in-Switch.result c.test_by-in-Switch.new.self c.test_by-in-Switch.ensures.ticks (omega (arith, c.test_by-in-Switch.ensures.within p, ap weights c.as_slice-in-Switch.ensures, ap weight c.in-Switch.is ∙ weight-Switch c.in-Switch.e c.in-Switch.all))

pub returns-in-Case-clause-nearer : goal.returns-in-Case-clause-nearer
returns-in-Case-clause-nearer c = λ p. kept-nearer p c.args.self.now.ticks (1 + weight c.args.s.now + marks_left c.args.self.now.stack.items) c.ends.result c.ends.new.self c.ends.ensures.ticks (omega (arith, c.ends.ensures.within p, ap weight c.in-Case.is ∙ weight-Case c.in-Case.field-0))

pub returns-in-Default-clause-nearer : goal.returns-in-Default-clause-nearer
returns-in-Default-clause-nearer c = λ p. kept-nearer p c.args.self.now.ticks (1 + weight c.args.s.now + marks_left c.args.self.now.stack.items) c.ends-in-Default.result c.ends-in-Default.new.self c.ends-in-Default.ensures.ticks (omega (arith, c.ends-in-Default.ensures.within p, ap weight c.in-Default.is ∙ weight-Default))

pub returns-in-Break-clause-nearer : goal.returns-in-Break-clause-nearer
returns-in-Break-clause-nearer c = λ p. kept-nearer p c.args.self.now.ticks (1 + weight c.args.s.now + marks_left c.args.self.now.stack.items) c.ends-in-Break.result c.ends-in-Break.new.self c.ends-in-Break.ensures.ticks (omega (arith, c.ends-in-Break.ensures.within p, ap weight c.in-Break.is ∙ weight-Break))

pub returns-in-Continue-clause-nearer : goal.returns-in-Continue-clause-nearer
returns-in-Continue-clause-nearer c = λ p. kept-nearer p c.args.self.now.ticks (1 + weight c.args.s.now + marks_left c.args.self.now.stack.items) c.ends-in-Continue.result c.ends-in-Continue.new.self c.ends-in-Continue.ensures.ticks (omega (arith, c.ends-in-Continue.ensures.within p, ap weight c.in-Continue.is ∙ weight-Continue))

pub returns-in-Return-clause-nearer : goal.returns-in-Return-clause-nearer
returns-in-Return-clause-nearer c = λ p. kept-nearer p c.args.self.now.ticks (1 + weight c.args.s.now + marks_left c.args.self.now.stack.items) c.give.result c.give.new.self c.give.ensures.ticks (omega (arith, c.give.ensures.within p, ap weight c.in-Return.is ∙ weight-Return c.in-Return.value))

pub returns-in-Sequence-clause-nearer : goal.returns-in-Sequence-clause-nearer
returns-in-Sequence-clause-nearer c = λ p. record { ticks = omega arith; steps = λ s. omega (arith, ap weights c.as_slice-in-Sequence.ensures, ap weight c.in-Sequence.is ∙ weight-Sequence c.in-Sequence.all) }

pub returns-in-Loop-clause-nearer : goal.returns-in-Loop-clause-nearer
returns-in-Loop-clause-nearer c = λ p. spent-nearer p c.args.self.now.ticks (1 + weight c.args.s.now + marks_left c.args.self.now.stack.items) c.start_loop.result c.start_loop.new.self c.start_loop.ensures.spends
