use Rattle.std.proofs.Common.{◌≡◌, drop}
use Rattle.cf_frame.specs.Bound.{slots_after}
use Rattle.cf_frame.proofs.sizes.slots.Given as goal

abbrev pub invariant-loop-ty : goal.invariant-loop-ty
invariant-loop-ty l = slots_after l.fn.unit l.total (drop l.ty-index l.fn.types) ≡ slots_after l.fn.unit 0 l.fn.types
