use Rattle.std.proofs.Common.{◌≡◌, drop, map}
use Rattle.std.specs.List.{list_all}
use Rattle.cf_core.specs.FromUnit.{tables_of, static_of}
use Rattle.cf_lowerable_core.specs.Looks.{static_looks}
use Rattle.cf_lowerable_core.proofs.files.statics_look.Given as goal

abbrev pub invariant-loop-x : goal.invariant-loop-x
invariant-loop-x l =
    list_all static_looks (map (static_of (tables_of l.unit)) (drop l.x-index l.x-items)) ≡ list_all static_looks (map (static_of (tables_of l.unit)) l.x-items)
