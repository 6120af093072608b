use Rattle.std.proofs.Common.{◌≡◌, ◌++◌, take}
use Rattle.cf_lowerable_places.proofs.functions.object_types.Given as goal

abbrev pub invariant-loop-id : goal.invariant-loop-id
invariant-loop-id l = l.made ≡ l.fn.f.params ++ take l.id-index l.id-items
