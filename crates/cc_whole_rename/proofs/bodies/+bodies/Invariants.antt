use Rattle.std.proofs.Common.{◌≡◌, map, take}
use Rattle.cc_whole_link.specs.Rename.{all_renamed}
use Rattle.cc_whole_rename.specs.Renamed.{renaming, statement_renamed, part_renamed}
use Rattle.cc_whole_rename.proofs.bodies.+bodies.Given as goal

abbrev pub invariant-statements-loop-one : goal.invariant-statements-loop-one
invariant-statements-loop-one l = record {
  kept : l.hidden ≡ l.initial.hidden;
  made : l.made ≡ all_renamed (map statement_renamed (take l.one-index l.one-items)) (renaming l.statics.unit l.statics.names l.initial.hidden);
}

abbrev pub invariant-parts-loop-one : goal.invariant-parts-loop-one
invariant-parts-loop-one l = record {
  kept : l.hidden ≡ l.initial.hidden;
  made : l.made ≡ all_renamed (map part_renamed (take l.one-index l.one-items)) (renaming l.statics.unit l.statics.names l.initial.hidden);
}
