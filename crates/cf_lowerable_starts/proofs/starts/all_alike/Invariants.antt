use Rattle.std.proofs.Common.{◌≡◌, drop, map}
use Rattle.std.specs.List.{list_all}
use Rattle.cf_plain.specs.View.{static_of}
use Rattle.cf_lower_program.specs.Alike.{start_alike}
use Rattle.cf_lowerable_starts.proofs.starts.all_alike.Given as goal

abbrev pub invariant-loop-object : goal.invariant-loop-object
invariant-loop-object l = list_all start_alike (map (static_of l.tables) (drop l.object-index l.statics)) ≡ list_all start_alike (map (static_of l.tables) l.statics)
