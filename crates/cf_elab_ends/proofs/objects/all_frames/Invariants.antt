use Rattle.std.proofs.Common.{◌≡◌, drop}
use Rattle.std.specs.List.{list_all}
use Rattle.cf_elab_valid_files.specs.File.Ends.{frame_right}
use Rattle.cf_elab_ends.proofs.objects.all_frames.Given as goal

abbrev pub invariant-loop-f : goal.invariant-loop-f
invariant-loop-f l = list_all (frame_right l.env.types) (drop l.f-index l.functions) ≡ list_all (frame_right l.env.types) l.functions
