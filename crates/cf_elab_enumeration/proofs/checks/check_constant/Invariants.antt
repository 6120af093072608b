use Rattle.std.proofs.Common.{◌≡◌, drop}
use Rattle.cf_elab_enumeration.specs.Shut as shut
use Rattle.cf_elab_enumeration.proofs.checks.check_constant.Given as goal

abbrev pub invariant-loop-one : goal.invariant-loop-one
invariant-loop-one l = shut.all_constant (drop l.one-index l.list) l.fn.env ≡ shut.all_constant l.list l.fn.env
