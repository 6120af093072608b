use Rattle.std.proofs.Common.{◌≡◌, map, drop}
use Rattle.cf_elab.specs.Built.{first, first_of, expression}
use Rattle.cf_elab_built.specs.Built.Parts.{param}
use Rattle.cf_elab_built.proofs.built.expressions.+trees.Given as goal

abbrev pub invariant-expressions-loop-e : goal.invariant-expressions-loop-e
invariant-expressions-loop-e l = first l.found (first_of (map expression (drop l.e-index l.initial.all))) ≡ first_of (map expression l.initial.all)

abbrev pub invariant-params-loop-p : goal.invariant-params-loop-p
invariant-params-loop-p l = first l.found (first_of (map param (drop l.p-index l.initial.all))) ≡ first_of (map param l.initial.all)
