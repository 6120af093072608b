use Rattle.std.proofs.Common.{◌∙◌, ap, sym}
use Rattle.cf_core.specs.Calls.{name_function, run_library, root}
use Rattle.cf_core_objects.specs.Store.{value_of}
use Rattle.cf_core_run.proofs.Laws.{value-as}
use Rattle.std.proofs.Common.{Bool, bytes_eq}
use Rattle.cf_core.specs.Run.{when}
use Rattle.cf_core.specs.Calls as calls
use Rattle.cf_core_run.specs.Going.{put_or_exit}
use Rattle.cf_core_run.proofs.state.Machine.put_or_exit.Goals as goal

pub returns-then-eq-clause-comes : goal.returns-then-eq-clause-comes
returns-then-eq-clause-comes c = λ p. value-as p c.args.self.now (λ T. put_or_exit T p c.args.name.now (value_of c.args.v)) (λ T. calls.put (value_of c.args.v)) c.put.result c.put.new.self (c.put.ensures.comes p)
    (λ T s w. ap (λ (b : Bool). when b (calls.put (value_of c.args.v)) (calls.leave_with (value_of c.args.v)) s w) (ap (bytes_eq c.args.name.now) (sym c.as_slice.ensures) ∙ sym c.eq.ensures ∙ c.if-eq.true))

pub returns-else-eq-clause-comes : goal.returns-else-eq-clause-comes
returns-else-eq-clause-comes c = λ p. value-as p c.args.self.now (λ T. put_or_exit T p c.args.name.now (value_of c.args.v)) (λ T. calls.leave_with (value_of c.args.v)) c.exit.result c.exit.new.self (c.exit.ensures.comes p)
    (λ T s w. ap (λ (b : Bool). when b (calls.put (value_of c.args.v)) (calls.leave_with (value_of c.args.v)) s w) (ap (bytes_eq c.args.name.now) (sym c.as_slice.ensures) ∙ sym c.eq.ensures ∙ c.if-eq.false))
