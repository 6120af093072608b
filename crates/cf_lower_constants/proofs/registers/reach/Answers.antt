use Rattle.std.proofs.Common.{List, [], ◌∷◌, ◌++◌, ap, ◌∙◌}
use Rattle.cf_lower_constants.specs.declared.known.Known.{Known}
use Rattle.cf_lower_constants.specs.Knowing.{known_at}
use Rattle.cf_lower_constants.proofs.Lists.{at_longer}
use Rattle.cf_lower_constants.proofs.registers.reach.Goals as goal

pub loop-alloc-preserved : goal.loop-alloc-preserved
loop-alloc-preserved c =
    λ q. ap (λ (l : List Known). known_at l q) c.in_ok-push.ensures.items ∙ ap (λ (k : Known). known_at (c.loop-alloc.all.items ++ k ∷ []) q) c.nameless.ensures
    ∙ at_longer c.loop-alloc.all.items q ∙ c.loop-alloc.invariant q
