use Rattle.cf_core_run.proofs.NearLaws.{pushed-left}
use Rattle.std.proofs.Common.{◌∙◌, List, ℕ, ap, option_map, rules, arith}
use Rattle.cf_core.specs.Calls as calls
use Rattle.cf_core_objects.specs.Store.{state_of, value_of}
use Rattle.cf_core_run.specs.Going.{from_value, library_on}
use Rattle.cf_core_run.proofs.Laws.{comes-by}
use Rattle.cf_core_run.proofs.CallLaws.{library-ends}
use Rattle.cf_core_run.proofs.state.Machine.call_library.Goals as goal

pub returns-clause-comes : goal.returns-clause-comes
returns-clause-comes c = λ p. comes-by p (λ T o. from_value T p c.args.self.now (calls.call_library c.args.name.now c.args.made.items) o)
    (λ T o. from_value T p (record c.args.self.now { stack = c.push.new.self }) (library_on T p c.args.name.now (option_map value_of c.first_argument-first.result)) o) c.run_library.result c.run_library.new.self
    (λ T o. library-ends T p c.args.self.now c.push.new.self c.args.name.now c.args.made.items _ c.first_argument-first.result o c.in_ok-push.ensures.items (search rules)
    (c.first_argument-first.ensures T ∙ ap (λ (l : List ℕ). calls.argument l (state_of T c.args.self.now.entered c.args.self.now.objects)) c.as_slice.ensures.value))
    (c.run_library.ensures.comes p)

pub returns-clause-within : goal.returns-clause-within
returns-clause-within c = λ p. omega (arith, pushed-left _ _ _ c.in_ok-push.ensures.items, c.run_library.ensures.within p)
