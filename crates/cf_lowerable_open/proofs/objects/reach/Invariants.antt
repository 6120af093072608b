use Rattle.std.proofs.Common.{◌≡◌, ℕ, ◌+◌, ◌-◌, length}
use Rattle.cf_lowerable_open.specs.Views.{object_at}
use Rattle.cf_lowerable_open.proofs.objects.reach.Given as goal

abbrev pub invariant-loop-all : goal.invariant-loop-all
invariant-loop-all l = (q : ℕ) → object_at l.all.items q ≡ object_at l.initial.all.items q

abbrev pub decreases-loop-all : goal.decreases-loop-all
decreases-loop-all l = l.index + 1 - length l.all.items
