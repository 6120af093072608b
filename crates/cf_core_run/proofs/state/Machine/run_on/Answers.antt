use Rattle.std.proofs.Common.{false, option_map, ap, Option}
use Rattle.cf_core_objects.specs.declared.answer.Stop.TheVariants as stop
use Rattle.cf_core_objects.specs.declared.answer.Value.{Value as Given}
use Rattle.cf_core_objects.specs.Store.{state_of, value_of}
use Rattle.cf_core_run.specs.Going.{from_value, library_by, put_or_exit}
use Rattle.cf_core_run.proofs.Laws.{comes-by, value-stopped}
use Rattle.cf_core_run.proofs.state.Machine.run_on.Goals as goal

pub returns-in-None-clause-comes : goal.returns-in-None-clause-comes
returns-in-None-clause-comes c = λ p. value-stopped p c.args.self.now (λ T. library_by T p false c.args.name.now (option_map value_of c.args.first)) stop.Malformed
    (λ T w. ap (λ (x : Option Given). library_by T p false c.args.name.now (option_map value_of x) (state_of T c.args.self.now.entered c.args.self.now.objects) w) c.in-None.is)

pub returns-in-Some-clause-comes : goal.returns-in-Some-clause-comes
returns-in-Some-clause-comes c = λ p. comes-by p (λ T o. from_value T p c.args.self.now (library_by T p false c.args.name.now (option_map value_of c.args.first)) o) (λ T o. from_value T p c.args.self.now (put_or_exit T p c.args.name.now (value_of c.in-Some.v)) o)
    c.put_or_exit.result c.put_or_exit.new.self
    (λ T o. ap (λ (x : Option Given). from_value T p c.args.self.now (library_by T p false c.args.name.now (option_map value_of x)) o) c.in-Some.is) (c.put_or_exit.ensures.comes p)
