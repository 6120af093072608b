use Rattle.std.proofs.Common.{◌≡◌, map, drop}
use Rattle.cf_elab_valid.specs.Constants.{all_of}
use Rattle.cf_elab_valid_files.specs.Bodies.Trees.{specifier_fits}
use Rattle.cf_elab_fits.proofs.declarations.specifiers.Given as goal

abbrev pub invariant-loop-s : goal.invariant-loop-s
invariant-loop-s l = all_of (map specifier_fits (drop l.s-index l.initial.all)) ≡ all_of (map specifier_fits l.initial.all)
