use Rattle.std.proofs.Common.{sym, subst}
use Rattle.cf_core_objects.specs.Answer.{Told}
use Rattle.cf_core_objects.specs.Store.{state_of, value_of}
use Rattle.cf_run_tree.specs.declared.node.Binary.{Binary}
use Rattle.cf_core_store.specs.Values.{of_both}
use Rattle.cf_core_store.proofs.results.of_both.Goals as goal

pub returns-in-Operate : goal.returns-in-Operate
returns-in-Operate c = λ T e w.
    subst (λ (o : Binary). Told value_of c.operated_value.result (state_of T e c.args.objects.now) w (of_both o (value_of c.args.x) (value_of c.args.y) (state_of T e c.args.objects.now) w)) (sym c.in-Operate.is) (c.operated_value.ensures (state_of T e c.args.objects.now) w)

pub returns-in-Store : goal.returns-in-Store
returns-in-Store c = λ T e w.
    subst (λ (o : Binary). Told value_of c.stored.result (state_of T e c.stored.new.objects) w (of_both o (value_of c.args.x) (value_of c.args.y) (state_of T e c.args.objects.now) w)) (sym c.in-Store.is) (c.stored.ensures T e w)

pub returns-in-Update : goal.returns-in-Update
returns-in-Update c = λ T e w.
    subst (λ (o : Binary). Told value_of c.stored-in-Update.result (state_of T e c.stored-in-Update.new.objects) w (of_both o (value_of c.args.x) (value_of c.args.y) (state_of T e c.args.objects.now) w)) (sym c.in-Update.is) (c.stored-in-Update.ensures T e w)

pub returns-in-Index : goal.returns-in-Index
returns-in-Index c = λ T e w.
    subst (λ (o : Binary). Told value_of c.indexed.result (state_of T e c.args.objects.now) w (of_both o (value_of c.args.x) (value_of c.args.y) (state_of T e c.args.objects.now) w)) (sym c.in-Index.is) (c.indexed.ensures T e w)

pub returns-in-Point : goal.returns-in-Point
returns-in-Point c = λ T e w.
    subst (λ (o : Binary). Told value_of c.pointed.result (state_of T e c.args.objects.now) w (of_both o (value_of c.args.x) (value_of c.args.y) (state_of T e c.args.objects.now) w)) (sym c.in-Point.is) (c.pointed.ensures T e w)
