use Rattle.std.proofs.Common.{◌≡◌, drop, map}
use Rattle.std.specs.Prelude.{find}
use Rattle.cf_core.specs.FromUnit.{tables_of, function_of}
use Rattle.cf_core_sound.specs.Programs.{is_main}
use Rattle.cf_file_sound.specs.Files.{stands_for_main}
use Rattle.cf_sound.proofs.files.has_main.Given as goal

abbrev pub invariant-loop-f : goal.invariant-loop-f
invariant-loop-f l =
    is_main (find stands_for_main (map (function_of (tables_of l.unit)) (drop l.f-index l.functions)))
    ≡ is_main (find stands_for_main (map (function_of (tables_of l.unit)) l.functions))
