use Rattle.std.proofs.Common.{◌≡◌, map, drop}
use Rattle.cf_elab.specs.Built.{first, first_of, of_member_init}
use Rattle.cf_elab_built.proofs.built.statements.member_inits.Given as goal

abbrev pub invariant-loop-i : goal.invariant-loop-i
invariant-loop-i l = first l.found (first_of (map of_member_init (drop l.i-index l.initial.all))) ≡ first_of (map of_member_init l.initial.all)
