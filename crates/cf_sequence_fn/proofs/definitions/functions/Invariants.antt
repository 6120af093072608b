use Rattle.std.proofs.Common.{◌≡◌, ◌++◌, true, map, drop}
use Rattle.std.specs.List.{list_all}
use Rattle.cf_core.specs.FromUnit.{tables_of}
use Rattle.cf_core.specs.Numbers.{function_known}
use Rattle.cf_sequence_fn.specs.Functions.{written_function}
use Rattle.cf_sequence_fn.proofs.definitions.functions.Given as goal

abbrev pub invariant-loop-f : goal.invariant-loop-f
invariant-loop-f l = record {
  known : list_all (function_known (tables_of l.unit)) (drop l.f-index l.f-items) ≡ true;
  written : l.made ++ map (written_function l.unit.types l.alloc) (drop l.f-index l.f-items) ≡ map (written_function l.unit.types l.alloc) l.f-items;
}
