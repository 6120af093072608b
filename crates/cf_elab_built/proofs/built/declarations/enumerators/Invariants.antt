use Rattle.std.proofs.Common.{◌≡◌, map, drop}
use Rattle.cf_elab.specs.Built.{first, first_of, of_enumerator}
use Rattle.cf_elab_built.proofs.built.declarations.enumerators.Given as goal

abbrev pub invariant-loop-e : goal.invariant-loop-e
invariant-loop-e l = first l.found (first_of (map of_enumerator (drop l.e-index l.initial.all))) ≡ first_of (map of_enumerator l.initial.all)
