use Rattle.std.proofs.Common.{◌≡◌, map, drop}
use Rattle.cf_elab_valid.specs.Constants.{all_of, constants_fit, parameter_fits}
use Rattle.cf_elab_fits.proofs.expressions.+trees.Given as goal

abbrev pub invariant-expressions-loop-e : goal.invariant-expressions-loop-e
invariant-expressions-loop-e l = all_of (map constants_fit (drop l.e-index l.initial.all)) ≡ all_of (map constants_fit l.initial.all)

abbrev pub invariant-params-loop-p : goal.invariant-params-loop-p
invariant-params-loop-p l = all_of (map parameter_fits (drop l.p-index l.initial.all)) ≡ all_of (map parameter_fits l.initial.all)
