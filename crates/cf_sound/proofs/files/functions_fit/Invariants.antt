use Rattle.std.proofs.Common.{◌≡◌, drop, map}
use Rattle.std.specs.List.{list_all}
use Rattle.cf_core.specs.FromUnit.{file_of, tables_of, function_of}
use Rattle.cf_sound.specs.Files.{body_fits}
use Rattle.cf_sound.proofs.files.functions_fit.Given as goal

abbrev pub invariant-loop-f : goal.invariant-loop-f
invariant-loop-f l =
    list_all (body_fits (file_of l.unit)) (map (function_of (tables_of l.unit)) (drop l.f-index l.f-items))
    ≡ list_all (body_fits (file_of l.unit)) (map (function_of (tables_of l.unit)) l.f-items)
