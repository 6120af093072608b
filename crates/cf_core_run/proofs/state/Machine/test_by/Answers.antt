use Rattle.std.proofs.Common.{◌∙◌, None, ap, sym, arith}
use Rattle.cf_core.specs.Run.{◌>>=◌}
use Rattle.cf_run_tree.specs.Tree.{core_of}
use Rattle.cf_core_objects.specs.Then.{◌▷◌}
use Rattle.cf_core_store.specs.Values.{of_value}
use Rattle.cf_core_run.specs.Going.{from_value, from_flow, valued, full, go_test}
use Rattle.cf_core_run.proofs.Laws.{comes-by}
use Rattle.cf_core_run.proofs.state.Machine.test_by.Goals as goal

pub returns-clause-comes : goal.returns-clause-comes
returns-clause-comes c = λ p. comes-by p
    (λ T o. from_flow T p c.args.self.now (λ s w. full T p c.args.self.now.fuel (valued T p c.args.self.now.fuel (core_of T p c.args.e.now) None >>= of_value T c.args.op) s w ▷ go_test T p c.args.self.now.fuel c.args.mark) o)
    (λ T o. from_value T p c.open_whole.new.self (valued T p c.open_whole.new.self.fuel (core_of T p c.args.e.now) None >>= of_value T c.args.op) o) c.down.result c.down.new.self
    (λ T o. c.in_ok-open_whole.ensures.opens.same T p (valued T p c.args.self.now.fuel (core_of T p c.args.e.now) None >>= of_value T c.args.op) o
    ∙ ap (λ k. from_value T p c.open_whole.new.self (valued T p k (core_of T p c.args.e.now) None >>= of_value T c.args.op) o) (sym c.in_ok-open_whole.ensures.opens.fuel))
    (c.down.ensures.comes p)

pub returns-clause-within : goal.returns-clause-within
returns-clause-within c = λ p. omega (arith, c.in_ok-open_whole.ensures.within, c.down.ensures.within p)
