use Rattle.cf_core_run.proofs.NearLaws.{weights-first}
use Rattle.cf_core_run.specs.Nearer.{weights}
use Rattle.std.proofs.Common.{◌∙◌, Bool, List, ap, sym, reverse, arith}
use Rattle.cf_core.specs.Calls.{Falls}
use Rattle.cf_core.specs.Run.{◌>>◌, gives, when}
use Rattle.cf_core.specs.Statements.{passes, from_case}
use Rattle.cf_run_tree.specs.declared.node.Node.{Node}
use Rattle.cf_run_tree.specs.Tree.{core_of, program_of}
use Rattle.cf_core_objects.specs.Store.{state_of}
use Rattle.cf_core_run.specs.Going.{on_flow, finish, from_flow, world_of, cores, again, performed_all}
use Rattle.cf_core_run.proofs.Laws.{nil, flow-as}
use Rattle.cf_core_run.proofs.LabelLaws.{case-next}
use Rattle.cf_core_run.proofs.state.Machine.seek_case.Goals as goal

pub returns-in-None-clause-comes : goal.returns-in-None-clause-comes
returns-in-None-clause-comes c = λ p. flow-as p c.args.self.now (λ T. from_case (again T p c.args.self.now.fuel) (program_of T p) c.args.number (cores T p c.args.all.now)) (λ T. gives Falls) c.ends.result c.ends.new.self (c.ends.ensures.comes p)
    (λ T w. ap (λ (l : List Node). from_case (again T p c.args.self.now.fuel) (program_of T p) c.args.number (cores T p l) (state_of T c.args.self.now.entered c.args.self.now.objects) w) (nil c.args.all.now c.in-None.ensures.cases))

pub returns-then-is_case-clause-comes : goal.returns-then-is_case-clause-comes
returns-then-is_case-clause-comes c = λ p. record {
  same = λ T o. ap (λ (l : List Node). from_flow T p c.args.self.now (from_case (again T p c.args.self.now.fuel) (program_of T p) c.args.number (cores T p l)) o) c.in-Some.ensures.cases.0
      ∙ ap (λ r. finish T p o (on_flow T p (reverse c.args.self.now.stack.items) r))
      (case-next (again T p c.args.self.now.fuel) (program_of T p) c.args.number (core_of T p c.in-Some.first.now) (cores T p c.in-Some.rest.now) (state_of T c.args.self.now.entered c.args.self.now.objects) (world_of c.args.self.now.ticks o)
      ∙ ap (λ (b : Bool). when b (performed_all T p c.args.self.now.fuel (cores T p c.in-Some.rest.now)) (passes (core_of T p c.in-Some.first.now) >> from_case (again T p c.args.self.now.fuel) (program_of T p) c.args.number (cores T p c.in-Some.rest.now)) (state_of T c.args.self.now.entered c.args.self.now.objects) (world_of c.args.self.now.ticks o))
      (sym (c.is_case.ensures T p) ∙ c.if-is_case.true));
}

pub returns-else-is_case-clause-comes : goal.returns-else-is_case-clause-comes
returns-else-is_case-clause-comes c = λ p. flow-as p c.args.self.now (λ T. from_case (again T p c.args.self.now.fuel) (program_of T p) c.args.number (cores T p c.args.all.now)) (λ T. passes (core_of T p c.in-Some.first.now) >> from_case (again T p c.args.self.now.fuel) (program_of T p) c.args.number (cores T p c.in-Some.rest.now)) c.pass_to_case.result c.pass_to_case.new.self (c.pass_to_case.ensures.comes p)
    (λ T w. ap (λ (l : List Node). from_case (again T p c.args.self.now.fuel) (program_of T p) c.args.number (cores T p l) (state_of T c.args.self.now.entered c.args.self.now.objects) w) c.in-Some.ensures.cases.0
    ∙ case-next (again T p c.args.self.now.fuel) (program_of T p) c.args.number (core_of T p c.in-Some.first.now) (cores T p c.in-Some.rest.now) (state_of T c.args.self.now.entered c.args.self.now.objects) w
    ∙ ap (λ (b : Bool). when b (performed_all T p c.args.self.now.fuel (cores T p c.in-Some.rest.now)) (passes (core_of T p c.in-Some.first.now) >> from_case (again T p c.args.self.now.fuel) (program_of T p) c.args.number (cores T p c.in-Some.rest.now)) (state_of T c.args.self.now.entered c.args.self.now.objects) w)
    (sym (c.is_case.ensures T p) ∙ c.if-is_case.false))

pub returns-in-None-clause-within : goal.returns-in-None-clause-within
returns-in-None-clause-within c = λ p. omega (arith, c.ends.ensures.within p)

pub returns-then-is_case-clause-within : goal.returns-then-is_case-clause-within
returns-then-is_case-clause-within c = λ p. omega (arith, ap weights c.in-Some.ensures.cases.0 ∙ weights-first c.in-Some.first.now c.in-Some.rest.now)

pub returns-else-is_case-clause-within : goal.returns-else-is_case-clause-within
returns-else-is_case-clause-within c = λ p. omega (arith, c.pass_to_case.ensures.within p, ap weights c.in-Some.ensures.cases.0 ∙ weights-first c.in-Some.first.now c.in-Some.rest.now)
