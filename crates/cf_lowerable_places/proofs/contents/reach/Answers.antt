use Rattle.std.proofs.Common.{List, ap, ◌∙◌}
use Rattle.cf_lowerable_types.specs.declared.kinds.Kinds.{Kinds}
use Rattle.cf_lowerable_places.specs.Contents.{kinds_at}
use Rattle.cf_lowerable_places.proofs.Holding.{at_longer}
use Rattle.cf_lowerable_places.proofs.contents.reach.Goals as goal

pub loop-all-preserved : goal.loop-all-preserved
loop-all-preserved c =
    λ q. ap (λ (l : List Kinds). kinds_at l q) c.in_ok-push.ensures.items ∙ at_longer c.loop-all.all.items c.no_kinds.result q c.no_kinds.ensures ∙ c.loop-all.invariant q
