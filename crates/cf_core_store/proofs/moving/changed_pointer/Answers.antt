use Rattle.std.proofs.Common.{[], sym, subst}
use Rattle.cf_core.specs.Scalars as scalars
use Rattle.cf_core_objects.specs.Answer.{Told}
use Rattle.cf_core_objects.specs.Store.{state_of, value_of}
use Rattle.std.proofs.Common.{Bool}
use Rattle.cf_core.specs.Core as core
use Rattle.cf_core_store.proofs.moving.changed_pointer.Goals as goal

pub returns-then-is_back : goal.returns-then-is_back
returns-then-is_back c = λ T e w.
    subst (λ (b : Bool). Told value_of c.changed_back.result (state_of T e c.args.objects.now) w (scalars.changed_value [] (core.moved b) (value_of c.args.v) (value_of c.args.by) (state_of T e c.args.objects.now) w)) (sym c.if-is_back.true) (c.changed_back.ensures T e w)

pub returns-else-is_back : goal.returns-else-is_back
returns-else-is_back c = λ T e w.
    subst (λ (b : Bool). Told value_of c.moved_by.result (state_of T e c.args.objects.now) w (scalars.changed_value [] (core.moved b) (value_of c.args.v) (value_of c.args.by) (state_of T e c.args.objects.now) w)) (sym c.if-is_back.false) (c.moved_by.ensures T e w)
