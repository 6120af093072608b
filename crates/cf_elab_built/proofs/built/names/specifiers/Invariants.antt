use Rattle.std.proofs.Common.{◌≡◌, map, drop}
use Rattle.cf_elab.specs.Built.{first, first_of, of_specifier}
use Rattle.cf_elab_built.proofs.built.names.specifiers.Given as goal

abbrev pub invariant-loop-s : goal.invariant-loop-s
invariant-loop-s l = first l.found (first_of (map of_specifier (drop l.s-index l.initial.all))) ≡ first_of (map of_specifier l.initial.all)
