use Rattle.std.proofs.Common.{◌≡◌, drop, map}
use Rattle.std.specs.List.{list_all}
use Rattle.cf_core.specs.FromUnit.{file_of, tables_of, static_of}
use Rattle.cf_sound.specs.Files.{object_fits}
use Rattle.cf_sound.proofs.files.objects_fit.Given as goal

abbrev pub invariant-loop-x : goal.invariant-loop-x
invariant-loop-x l =
    list_all (object_fits (file_of l.unit)) (map (static_of (tables_of l.unit)) (drop l.x-index l.x-items))
    ≡ list_all (object_fits (file_of l.unit)) (map (static_of (tables_of l.unit)) l.x-items)
