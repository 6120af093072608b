use Rattle.std.proofs.Common.{◌∙◌, Bool, ap, sym, false, reverse, bytes_eq, option_map, arith}
use Rattle.cf_core_objects.specs.Store.{state_of, value_of}
use Rattle.cf_core_run.specs.Going.{on_value, finish, world_of, library_by, library_on}
use Rattle.cf_core_run.proofs.Laws.{value-as}
use Rattle.cf_core_run.proofs.state.Machine.run_library.Goals as goal

pub returns-then-eq-clause-comes : goal.returns-then-eq-clause-comes
returns-then-eq-clause-comes c = λ p. record {
  same = λ T o. ap (λ (b : Bool). finish T p o (on_value T p (reverse c.args.self.now.stack.items) (library_by T p b c.args.name.now (option_map value_of c.args.first) (state_of T c.args.self.now.entered c.args.self.now.objects) (world_of c.args.self.now.ticks o))))
      (ap (bytes_eq c.args.name.now) (sym c.as_slice.ensures) ∙ sym c.eq.ensures ∙ c.if-eq.true);
}

pub returns-else-eq-clause-comes : goal.returns-else-eq-clause-comes
returns-else-eq-clause-comes c = λ p. value-as p c.args.self.now (λ T. library_on T p c.args.name.now (option_map value_of c.args.first)) (λ T. library_by T p false c.args.name.now (option_map value_of c.args.first)) c.run_on.result c.run_on.new.self (c.run_on.ensures.comes p)
    (λ T s w. ap (λ (b : Bool). library_by T p b c.args.name.now (option_map value_of c.args.first) s w) (ap (bytes_eq c.args.name.now) (sym c.as_slice.ensures) ∙ sym c.eq.ensures ∙ c.if-eq.false))

pub returns-else-eq-clause-within : goal.returns-else-eq-clause-within
returns-else-eq-clause-within c = λ p. omega (arith, c.run_on.ensures.within p)
