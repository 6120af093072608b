use Rattle.std.proofs.Common.{List, ap, ◌∙◌}
use Rattle.cf_lowerable_starts.specs.declared.details.Detail.{Detail}
use Rattle.cf_lowerable_starts.specs.Telling.{detail_at}
use Rattle.cf_lowerable_starts.proofs.DetailLaws.{at_longer}
use Rattle.cf_lowerable_starts.proofs.details.reach.Goals as goal

pub loop-all-preserved : goal.loop-all-preserved
loop-all-preserved c =
    λ q. ap (λ (l : List Detail). detail_at l q) c.in_ok-push.ensures.items ∙ at_longer c.loop-all.all.items q ∙ c.loop-all.invariant q
