use Rattle.std.proofs.Common.{List, ap, ◌∙◌}
use Rattle.cf_lowerable_ready.specs.declared.content.Content.{Content}
use Rattle.cf_lowerable_ready.specs.Contents.{content_at}
use Rattle.cf_lowerable_ready.proofs.Lists.{at_longer}
use Rattle.cf_lowerable_ready.proofs.contents.Contents.reach.Goals as goal

pub loop-self-preserved : goal.loop-self-preserved
loop-self-preserved c = λ q. ap (λ (l : List Content). content_at l q) c.in_ok-push.ensures.items ∙ at_longer c.loop-self.self.held.items q ∙ c.loop-self.invariant q
