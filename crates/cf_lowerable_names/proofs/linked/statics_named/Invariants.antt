use Rattle.std.proofs.Common.{◌≡◌, drop}
use Rattle.cf_lowerable_names.specs.Linked.{statics_named}
use Rattle.cf_lowerable_names.proofs.linked.statics_named.Given as goal

abbrev pub invariant-loop-object : goal.invariant-loop-object
invariant-loop-object l = statics_named (drop l.object-index l.statics) ≡ statics_named l.statics
