use Rattle.std.proofs.Common.{◌≡◌, true, drop}
use Rattle.std.specs.List.{list_all}
use Rattle.cf_core.specs.FromUnit.{tables_of}
use Rattle.cf_core.specs.Numbers.{function_known}
use Rattle.cf_sequence_built.specs.Unbuilt.{in_functions}
use Rattle.cf_sequence_built.proofs.files.in_functions.Given as goal

abbrev pub invariant-loop-f : goal.invariant-loop-f
invariant-loop-f l = record {
  known : list_all (function_known (tables_of l.unit)) (drop l.f-index l.f-items) ≡ true;
  found : in_functions (tables_of l.unit) (drop l.f-index l.f-items) ≡ in_functions (tables_of l.unit) l.f-items;
}
