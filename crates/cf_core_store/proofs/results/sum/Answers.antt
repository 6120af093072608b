use Rattle.std.proofs.Common.{sym, subst}
use Rattle.cf_base.specs.World.{Ran}
use Rattle.cf_core.specs.Run.{Did}
use Rattle.cf_core.specs.Store.{Value}
use Rattle.cf_core_objects.specs.Answer.{Told}
use Rattle.cf_core_objects.specs.Store.{state_of, value_of}
use Rattle.cf_core_store.proofs.StoreLaws.{sum-as}
use Rattle.cf_core_store.proofs.results.sum.Goals as goal

pub returns : goal.returns
returns c = λ T e w.
    subst (λ (r : Ran (Did Value)). Told value_of c.indexed.result (state_of T e c.args.objects.now) w r) (sym (sum-as c.args.x c.args.y (state_of T e c.args.objects.now) w)) (c.indexed.ensures T e w)
