use Rattle.std.proofs.Common.{◌≡◌, drop}
use Rattle.std.specs.List.{list_all}
use Rattle.cf_elab_valid_files.specs.File.Ends.{aims_right}
use Rattle.cf_elab_ends.proofs.types.all_aim.Given as goal

abbrev pub invariant-loop-number : goal.invariant-loop-number
invariant-loop-number l = list_all (aims_right l.env.types) (drop l.number l.env.types.types) ≡ list_all (aims_right l.env.types) l.env.types.types
