use Rattle.std.proofs.Common.{◌≡◌, drop, map}
use Rattle.std.specs.List.{list_all}
use Rattle.cf_plain.specs.View.{function_of}
use Rattle.cf_lowerable_open.specs.Views.{tables_in}
use Rattle.cf_lowerable_open.specs.Walk.{function_opens}
use Rattle.cf_lowerable_open.proofs.functions.all_functions_open.Given as goal

abbrev pub invariant-loop-f : goal.invariant-loop-f
invariant-loop-f l =
    list_all function_opens (map (function_of (tables_in l.x)) (drop l.f-index l.functions)) ≡ list_all function_opens (map (function_of (tables_in l.x)) l.functions)
