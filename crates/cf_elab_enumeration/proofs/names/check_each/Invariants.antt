use Rattle.std.proofs.Common.{◌≡◌, drop}
use Rattle.cf_elab_enumeration.specs.Shut as shut
use Rattle.cf_elab_enumeration.proofs.names.check_each.Given as goal

abbrev pub invariant-loop-one : goal.invariant-loop-one
invariant-loop-one l = shut.all_new l.before (drop l.one-index l.list) l.env ≡ shut.all_new l.initial.before l.list l.env
