use Rattle.std.proofs.Common.{sym, subst}
use Rattle.cf_core_objects.specs.Answer.{Told}
use Rattle.cf_core_objects.specs.Store.{state_of, value_of}
use Rattle.cf_run_tree.specs.declared.node.Unary.{Unary}
use Rattle.cf_core_store.specs.Values.{of_one}
use Rattle.cf_core_store.proofs.results.of_one.Goals as goal

pub returns-in-Convert : goal.returns-in-Convert
returns-in-Convert c = λ T e w.
    subst (λ (o : Unary). Told value_of c.converted_to.result (state_of T e c.args.objects.now) w (of_one T o (value_of c.args.v) (state_of T e c.args.objects.now) w)) (sym c.in-Convert.is) (c.converted_to.ensures T (state_of T e c.args.objects.now) w)
