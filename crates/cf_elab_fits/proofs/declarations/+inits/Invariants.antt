use Rattle.std.proofs.Common.{◌≡◌, map, drop}
use Rattle.cf_elab_valid.specs.Constants.{all_of}
use Rattle.cf_elab_valid_files.specs.Bodies.Trees.{init_fits}
use Rattle.cf_elab_fits.proofs.declarations.+inits.Given as goal

abbrev pub invariant-inits-loop-i : goal.invariant-inits-loop-i
invariant-inits-loop-i l = all_of (map init_fits (drop l.i-index l.initial.all)) ≡ all_of (map init_fits l.initial.all)
