use Rattle.std.proofs.Common.{◌≡◌, drop, map}
use Rattle.std.specs.List.{list_all}
use Rattle.cf_core.specs.FromUnit.{tables_of, function_of}
use Rattle.cf_lowerable_core.specs.Looks.{function_looks}
use Rattle.cf_lowerable_core.proofs.files.functions_look.Given as goal

abbrev pub invariant-loop-f : goal.invariant-loop-f
invariant-loop-f l =
    list_all function_looks (map (function_of (tables_of l.unit)) (drop l.f-index l.f-items)) ≡ list_all function_looks (map (function_of (tables_of l.unit)) l.f-items)
