use Rattle.std.proofs.Common.{List, ap, ◌∙◌}
use Rattle.cf_lower_held.specs.declared.held.Held.{Held}
use Rattle.cf_lower_held.specs.Holds.{held_at}
use Rattle.cf_lower_held.proofs.Lists.{at_longer}
use Rattle.cf_lower_held.proofs.registers.reach.Goals as goal

pub loop-all-preserved : goal.loop-all-preserved
loop-all-preserved c = λ q. ap (λ (l : List Held). held_at l q) c.in_ok-push.ensures.items ∙ at_longer c.loop-all.all.items q ∙ c.loop-all.invariant q
