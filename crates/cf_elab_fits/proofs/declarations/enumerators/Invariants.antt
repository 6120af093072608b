use Rattle.std.proofs.Common.{◌≡◌, map, drop}
use Rattle.cf_elab_valid.specs.Constants.{all_of}
use Rattle.cf_elab_valid_files.specs.Bodies.Trees.{enumerator_fits}
use Rattle.cf_elab_fits.proofs.declarations.enumerators.Given as goal

abbrev pub invariant-loop-e : goal.invariant-loop-e
invariant-loop-e l = all_of (map enumerator_fits (drop l.e-index l.initial.all)) ≡ all_of (map enumerator_fits l.initial.all)
