use Rattle.std.proofs.Common.{◌≡◌, map, drop}
use Rattle.cf_elab.specs.Built.{first, first_of, init}
use Rattle.cf_elab_built.proofs.built.declarations.+inits.Given as goal

abbrev pub invariant-inits-loop-i : goal.invariant-inits-loop-i
invariant-inits-loop-i l = first l.found (first_of (map init (drop l.i-index l.initial.all))) ≡ first_of (map init l.initial.all)
