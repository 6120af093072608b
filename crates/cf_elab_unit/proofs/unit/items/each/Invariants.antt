use Rattle.std.proofs.Common.{◌≡◌, drop}
use Rattle.cf_elab_unit.specs.Unit.Shut as shut
use Rattle.cf_elab_unit.proofs.unit.items.each.Given as goal

abbrev pub invariant-loop-i : goal.invariant-loop-i
invariant-loop-i l = shut.items l.items l.initial.env ≡ shut.items (drop l.i-index l.items) l.env
