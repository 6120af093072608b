use Rattle.std.proofs.Common.{◌≡◌, true, drop}
use Rattle.std.specs.List.{list_all}
use Rattle.cf_core.specs.FromUnit.{tables_of}
use Rattle.cf_core.specs.Numbers.{static_known}
use Rattle.cf_sequence_built.specs.Unbuilt.{in_statics}
use Rattle.cf_sequence_built.proofs.files.in_statics.Given as goal

abbrev pub invariant-loop-x : goal.invariant-loop-x
invariant-loop-x l = record {
  known : list_all (static_known (tables_of l.unit)) (drop l.x-index l.x-items) ≡ true;
  found : in_statics (tables_of l.unit) l.unit.statics (drop l.x-index l.x-items) ≡ in_statics (tables_of l.unit) l.unit.statics l.x-items;
}
