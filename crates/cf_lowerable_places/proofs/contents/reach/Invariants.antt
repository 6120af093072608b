use Rattle.std.proofs.Common.{◌≡◌, ℕ, ◌+◌, ◌-◌, length}
use Rattle.cf_lowerable_places.specs.Contents.{kinds_at}
use Rattle.cf_lowerable_places.proofs.contents.reach.Given as goal

abbrev pub invariant-loop-all : goal.invariant-loop-all
invariant-loop-all l = (q : ℕ) → kinds_at l.all.items q ≡ kinds_at l.initial.all.items q

abbrev pub decreases-loop-all : goal.decreases-loop-all
decreases-loop-all l = l.index + 1 - length l.all.items
