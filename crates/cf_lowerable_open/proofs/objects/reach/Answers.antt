use Rattle.std.proofs.Common.{ℕ, List, Option, ap, ◌∙◌}
use Rattle.cf_lowerable_open.specs.Views.{object_at}
use Rattle.cf_lowerable_open.proofs.Holding.{at_longer}
use Rattle.cf_lowerable_open.proofs.objects.reach.Goals as goal

pub loop-all-preserved : goal.loop-all-preserved
loop-all-preserved c = λ q. ap (λ (l : List (Option ℕ)). object_at l q) c.in_ok-push.ensures.items ∙ at_longer c.loop-all.all.items q ∙ c.loop-all.invariant q
