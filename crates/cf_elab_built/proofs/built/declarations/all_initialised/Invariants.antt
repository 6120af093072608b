use Rattle.std.proofs.Common.{◌≡◌, map, drop}
use Rattle.cf_elab.specs.Built.{first, first_of, of_declarator}
use Rattle.cf_elab_built.proofs.built.declarations.all_initialised.Given as goal

abbrev pub invariant-loop-d : goal.invariant-loop-d
invariant-loop-d l = first l.found (first_of (map of_declarator (drop l.d-index l.initial.all))) ≡ first_of (map of_declarator l.initial.all)
