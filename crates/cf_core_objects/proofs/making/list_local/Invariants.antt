use Rattle.std.proofs.Common.{◌≡◌, ◌+◌, ◌-◌, ℕ, length, slice_get}
use Rattle.cf_core_objects.specs.Store.{local_object}
use Rattle.cf_core_objects.proofs.making.list_local.Given as goal

abbrev pub invariant-loop-locals : goal.invariant-loop-locals
invariant-loop-locals l = (k : ℕ) → local_object (slice_get l.locals.items k) ≡ local_object (slice_get l.initial.locals.items k)

abbrev pub decreases-loop-locals : goal.decreases-loop-locals
decreases-loop-locals l = l.index + 1 - length l.locals.items
