use Rattle.std.proofs.Common.{None, ap, arith}
use Rattle.cf_core.specs.Run.{when}
use Rattle.cf_run_tree.specs.Tree.{core_of}
use Rattle.cf_core_run.specs.Going.{valued}
use Rattle.cf_core_run.proofs.Laws.{value-as}
use Rattle.cf_core_run.proofs.state.Machine.choice_on.Goals as goal

pub returns-then-holds-clause-comes : goal.returns-then-holds-clause-comes
returns-then-holds-clause-comes c = λ p. value-as p c.args.self.now (λ T. when c.args.holds (valued T p c.args.self.now.fuel (core_of T p c.args.a.now) None) (valued T p c.args.self.now.fuel (core_of T p c.args.b.now) None)) _ c.turn_to.result c.turn_to.new.self (c.turn_to.ensures.comes p) (λ T s w. ap (λ h. when h (valued T p c.args.self.now.fuel (core_of T p c.args.a.now) None) (valued T p c.args.self.now.fuel (core_of T p c.args.b.now) None) s w) c.if-holds.true)

pub returns-else-holds-clause-comes : goal.returns-else-holds-clause-comes
returns-else-holds-clause-comes c = λ p. value-as p c.args.self.now (λ T. when c.args.holds (valued T p c.args.self.now.fuel (core_of T p c.args.a.now) None) (valued T p c.args.self.now.fuel (core_of T p c.args.b.now) None)) _ c.turn_to-else-holds.result c.turn_to-else-holds.new.self (c.turn_to-else-holds.ensures.comes p) (λ T s w. ap (λ h. when h (valued T p c.args.self.now.fuel (core_of T p c.args.a.now) None) (valued T p c.args.self.now.fuel (core_of T p c.args.b.now) None) s w) c.if-holds.false)

pub returns-then-holds-clause-within : goal.returns-then-holds-clause-within
returns-then-holds-clause-within c = λ p. omega (arith, c.turn_to.ensures.within p)

pub returns-else-holds-clause-within : goal.returns-else-holds-clause-within
returns-else-holds-clause-within c = λ p. omega (arith, c.turn_to-else-holds.ensures.within p)
