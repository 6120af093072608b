use Rattle.std.proofs.Common.{◌≡◌, map, drop}
use Rattle.cf_elab.specs.Built.{first, first_of}
use Rattle.cf_elab_built.specs.Built.Parts.{specifier}
use Rattle.cf_elab_built.proofs.built.declarations.specifiers.Given as goal

abbrev pub invariant-loop-s : goal.invariant-loop-s
invariant-loop-s l = first l.found (first_of (map specifier (drop l.s-index l.initial.all))) ≡ first_of (map specifier l.initial.all)
