use Rattle.std.proofs.Common.{◌≡◌, ℕ, ◌+◌, ◌-◌, length}
use Rattle.cf_lowerable_ready.specs.Contents.{content_at}
use Rattle.cf_lowerable_ready.proofs.contents.Contents.reach.Given as goal

abbrev pub invariant-loop-self : goal.invariant-loop-self
invariant-loop-self l = (q : ℕ) → content_at l.self.held.items q ≡ content_at l.initial.self.held.items q

abbrev pub decreases-loop-self : goal.decreases-loop-self
decreases-loop-self l = l.index + 1 - length l.self.held.items
