use Rattle.std.proofs.Common.{◌≡◌, ◌++◌, map, drop}
use Rattle.cc_whole_link.specs.Placed.{static_renaming}
use Rattle.cc_whole_uses.specs.Told.{told}
use Rattle.cc_whole_placed.proofs.statics.renamed_names.Given as goal

abbrev pub invariant-loop-name : goal.invariant-loop-name
invariant-loop-name l =
    l.made ++ map (static_renaming l.statics.unit l.statics.names) (told (drop l.name-index l.names)) ≡ map (static_renaming l.statics.unit l.statics.names) (told l.names)
