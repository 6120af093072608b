use Rattle.cf_core_run.specs.Nearer.{statics_left}
use Rattle.std.proofs.Common.{◌∙◌, [], ap, sym, reverse, codes, arith}
use Rattle.cf_core.specs.Store.{Code}
use Rattle.cf_core_objects.specs.Store.{state_of}
use Rattle.cf_core_run.specs.Going.{setting, setting_with, called, on_value, finish, world_of}
use Rattle.cf_core_run.proofs.Laws.{nil, value-as}
use Rattle.cf_core_run.proofs.StaticLaws.{setting-main, setting-skips, setting-sets}
use Rattle.cf_core_run.proofs.state.Machine.set_next.Goals as goal

pub returns-in-None-clause-comes : goal.returns-in-None-clause-comes
returns-in-None-clause-comes c = value-as c.args.program.now c.args.self.now (λ T. setting T c.args.program.now c.args.self.now.fuel c.args.all.now) (λ T. called T c.args.program.now c.args.self.now.fuel (Code (codes "__main")) []) c.call_main.result c.call_main.new.self (c.call_main.ensures.comes c.args.program.now)
    (λ T s w. setting-main T c.args.program.now c.args.self.now.fuel c.args.all.now s w (nil c.args.all.now c.in-None.ensures.cases))

pub returns-then-sets_constant-clause-comes : goal.returns-then-sets_constant-clause-comes
returns-then-sets_constant-clause-comes c = value-as c.args.program.now c.args.self.now (λ T. setting T c.args.program.now c.args.self.now.fuel c.args.all.now) (λ T. setting_with T c.args.program.now c.args.self.now.fuel c.in-Some.first.now c.in-Some.rest.now) c.set.result c.set.new.self c.set.ensures.comes
    (λ T s w. setting-sets T c.args.program.now c.args.self.now.fuel c.args.all.now c.in-Some.first.now c.in-Some.rest.now s w c.in-Some.ensures.cases.0 (sym (c.sets_constant.ensures T c.args.program.now) ∙ c.if-sets_constant.true))

pub returns-else-sets_constant-clause-comes : goal.returns-else-sets_constant-clause-comes
returns-else-sets_constant-clause-comes c = record {
  same = λ T o. ap (λ r. finish T c.args.program.now o (on_value T c.args.program.now (reverse c.args.self.now.stack.items) r))
      (setting-skips T c.args.program.now c.args.self.now.fuel c.args.all.now c.in-Some.first.now c.in-Some.rest.now (state_of T c.args.self.now.entered c.args.self.now.objects) (world_of c.args.self.now.ticks o) c.in-Some.ensures.cases.0 (sym (c.sets_constant.ensures T c.args.program.now) ∙ c.if-sets_constant.false));
}

pub returns-in-None-clause-within : goal.returns-in-None-clause-within
returns-in-None-clause-within c = λ p. omega (arith, c.call_main.ensures.within p, ap statics_left (nil c.args.all.now c.in-None.ensures.cases))

pub returns-then-sets_constant-clause-within : goal.returns-then-sets_constant-clause-within
returns-then-sets_constant-clause-within c = λ p. omega (arith, c.set.ensures.within p, ap statics_left c.in-Some.ensures.cases.0)

pub returns-else-sets_constant-clause-within : goal.returns-else-sets_constant-clause-within
returns-else-sets_constant-clause-within c = λ p. omega (arith, ap statics_left c.in-Some.ensures.cases.0)
