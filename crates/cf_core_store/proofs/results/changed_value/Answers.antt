use Rattle.std.proofs.Common.{sym, subst}
use Rattle.cf_core_objects.specs.Answer.{Told}
use Rattle.cf_core_objects.specs.Store.{state_of, value_of}
use Rattle.cf_run_tree.specs.declared.node.Change.{Change}
use Rattle.cf_core_store.specs.Values.{changed_by}
use Rattle.cf_core_store.proofs.results.changed_value.Goals as goal

pub returns-in-Moved : goal.returns-in-Moved
returns-in-Moved c = λ T e w.
    subst (λ (o : Change). Told value_of c.changed_pointer.result (state_of T e c.args.objects.now) w (changed_by o (value_of c.args.x) (value_of c.args.y) (state_of T e c.args.objects.now) w)) (sym c.in-Moved.is) (c.changed_pointer.ensures T e w)
