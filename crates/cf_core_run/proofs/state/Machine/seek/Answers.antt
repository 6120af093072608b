use Rattle.std.proofs.Common.{◌∙◌, Bool, ap, sym, arith}
use Rattle.cf_core.specs.Calls.{Falls}
use Rattle.cf_core.specs.Run.{gives, when}
use Rattle.cf_core.specs.Statements.{has_default, from_case, from_default}
use Rattle.cf_run_tree.specs.Tree.{program_of}
use Rattle.cf_core_objects.specs.Store.{state_of}
use Rattle.cf_core_run.specs.Going.{from_flow, cores, again, labelled}
use Rattle.cf_core_run.proofs.Laws.{flow-as}
use Rattle.cf_core_run.proofs.state.Machine.seek.Goals as goal

pub returns-then-has_case-clause-comes : goal.returns-then-has_case-clause-comes
returns-then-has_case-clause-comes c = λ p. record {
  same = λ T o. ap (λ (b : Bool). from_flow T p c.args.self.now (when b (from_case (again T p c.args.self.now.fuel) (program_of T p) c.args.number (cores T p c.args.all.now))
      (when (has_default (cores T p c.args.all.now)) (from_default (again T p c.args.self.now.fuel) (program_of T p) (cores T p c.args.all.now)) (gives Falls))) o)
      (sym (c.has_case.ensures T p) ∙ c.if-has_case.true);
}

pub returns-then-has_default-clause-comes : goal.returns-then-has_default-clause-comes
returns-then-has_default-clause-comes c = λ p. record {
  same = λ T o. ap (λ (b : Bool). from_flow T p c.args.self.now (when b (from_case (again T p c.args.self.now.fuel) (program_of T p) c.args.number (cores T p c.args.all.now))
      (when (has_default (cores T p c.args.all.now)) (from_default (again T p c.args.self.now.fuel) (program_of T p) (cores T p c.args.all.now)) (gives Falls))) o)
      (sym (c.has_case.ensures T p) ∙ c.if-has_case.false)
      ∙ ap (λ (b : Bool). from_flow T p c.args.self.now (when b (from_default (again T p c.args.self.now.fuel) (program_of T p) (cores T p c.args.all.now)) (gives Falls)) o)
      (sym (c.has_default.ensures T p) ∙ c.if-has_default.true);
}

pub returns-clause-comes : goal.returns-clause-comes
returns-clause-comes c = λ p. flow-as p c.args.self.now (λ T. labelled T p c.args.self.now.fuel c.args.number (cores T p c.args.all.now)) (λ T. gives Falls) c.ends.result c.ends.new.self (c.ends.ensures.comes p)
    (λ T w. ap (λ (b : Bool). when b (from_case (again T p c.args.self.now.fuel) (program_of T p) c.args.number (cores T p c.args.all.now))
    (when (has_default (cores T p c.args.all.now)) (from_default (again T p c.args.self.now.fuel) (program_of T p) (cores T p c.args.all.now)) (gives Falls)) (state_of T c.args.self.now.entered c.args.self.now.objects) w)
    (sym (c.has_case.ensures T p) ∙ c.if-has_case.false)
    ∙ ap (λ (b : Bool). when b (from_default (again T p c.args.self.now.fuel) (program_of T p) (cores T p c.args.all.now)) (gives Falls) (state_of T c.args.self.now.entered c.args.self.now.objects) w)
    (sym (c.has_default.ensures T p) ∙ c.if-has_default.false))

pub returns-clause-within : goal.returns-clause-within
returns-clause-within c = λ p. omega (arith, c.ends.ensures.within p)
