use Rattle.std.proofs.Common.{◌≡◌, map, drop}
use Rattle.cf_elab_valid.specs.Constants.{all_of}
use Rattle.cf_elab_valid_files.specs.Bodies.Trees.{init_declarator_fits}
use Rattle.cf_elab_fits.proofs.declarations.all_initialised.Given as goal

abbrev pub invariant-loop-d : goal.invariant-loop-d
invariant-loop-d l = all_of (map init_declarator_fits (drop l.d-index l.initial.all)) ≡ all_of (map init_declarator_fits l.initial.all)
