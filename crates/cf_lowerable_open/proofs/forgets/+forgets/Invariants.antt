use Rattle.std.proofs.Common.{◌≡◌, drop}
use Rattle.cf_lowerable_open.specs.Views.{holding}
use Rattle.cf_lowerable_open.proofs.Steps.{Unset}
use Rattle.cf_lowerable_open.proofs.forgets.+forgets.Given as goal

abbrev pub invariant-forget-loop-s : goal.invariant-forget-loop-s
invariant-forget-loop-s l = Unset l.x (drop l.s-index l.s-items) (holding l.g) ≡ Unset l.x l.s-items (holding l.initial.g)
