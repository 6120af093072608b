use Rattle.std.proofs.Common.{◌≡◌, ◌++◌, true, map, drop}
use Rattle.std.specs.List.{list_all}
use Rattle.cf_core.specs.FromUnit.{tables_of}
use Rattle.cf_core.specs.Numbers.{function_known}
use Rattle.cf_frame.specs.Bound.{function_total}
use Rattle.cf_frame.proofs.functions.frames.Given as goal

abbrev pub invariant-loop-function : goal.invariant-loop-function
invariant-loop-function l = record {
  known : list_all (function_known (tables_of l.unit)) (drop l.function-index l.function-items) ≡ true;
  totals : l.all ++ map (function_total l.unit) (drop l.function-index l.function-items) ≡ map (function_total l.unit) l.function-items;
}
