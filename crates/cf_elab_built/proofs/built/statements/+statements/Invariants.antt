use Rattle.std.proofs.Common.{◌≡◌, map, drop}
use Rattle.cf_elab.specs.Built.{first, first_of}
use Rattle.cf_elab_built.specs.Built.Parts.{statement}
use Rattle.cf_elab_built.proofs.built.statements.+statements.Given as goal

abbrev pub invariant-statements-loop-s : goal.invariant-statements-loop-s
invariant-statements-loop-s l = first l.found (first_of (map statement (drop l.s-index l.initial.all))) ≡ first_of (map statement l.initial.all)
