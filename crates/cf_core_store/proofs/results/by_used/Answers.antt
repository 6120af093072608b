use Rattle.std.proofs.Common.{sym, subst}
use Rattle.cf_core_objects.specs.Answer.{Told}
use Rattle.cf_core_objects.specs.Store.{state_of, value_of}
use Rattle.cf_run_tree.specs.declared.node.Unary.{Unary}
use Rattle.cf_core_store.specs.Values.{by_used}
use Rattle.cf_core_store.proofs.results.by_used.Goals as goal

pub returns-in-Sign : goal.returns-in-Sign
returns-in-Sign c = λ T e w.
    subst (λ (o : Unary). Told value_of c.signed_value.result (state_of T e c.args.objects.now) w (by_used o (value_of c.args.v) (state_of T e c.args.objects.now) w)) (sym c.in-Sign.is) (c.signed_value.ensures (state_of T e c.args.objects.now) w)

pub returns-in-Dereference : goal.returns-in-Dereference
returns-in-Dereference c = λ T e w.
    subst (λ (o : Unary). Told value_of c.pointed_to.result (state_of T e c.args.objects.now) w (by_used o (value_of c.args.v) (state_of T e c.args.objects.now) w)) (sym c.in-Dereference.is) (c.pointed_to.ensures (state_of T e c.args.objects.now) w)

pub returns-in-Decay : goal.returns-in-Decay
returns-in-Decay c = λ T e w.
    subst (λ (o : Unary). Told value_of c.decayed.result (state_of T e c.args.objects.now) w (by_used o (value_of c.args.v) (state_of T e c.args.objects.now) w)) (sym c.in-Decay.is) (c.decayed.ensures T e w)
