use Rattle.std.proofs.Common.{◌≡◌, ◌++◌, true, map, drop}
use Rattle.std.specs.List.{list_all}
use Rattle.cf_core.specs.FromUnit.{tables_of}
use Rattle.cf_core.specs.Numbers.{static_known}
use Rattle.cf_sequence_fn.specs.Functions.{written_object}
use Rattle.cf_sequence_fn.proofs.statics.objects.Given as goal

abbrev pub invariant-loop-x : goal.invariant-loop-x
invariant-loop-x l = record {
  known : list_all (static_known (tables_of l.unit)) (drop l.x-index l.x-items) ≡ true;
  written : l.made ++ map (written_object l.unit.types l.alloc) (drop l.x-index l.x-items) ≡ map (written_object l.unit.types l.alloc) l.x-items;
}
