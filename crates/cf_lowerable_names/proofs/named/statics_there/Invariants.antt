use Rattle.std.proofs.Common.{◌≡◌, drop}
use Rattle.cf_lowerable_names.specs.Given.{statics_in}
use Rattle.cf_lowerable_names.proofs.named.statics_there.Given as goal

abbrev pub invariant-loop-object : goal.invariant-loop-object
invariant-loop-object l = statics_in l.names l.tables (drop l.object-index l.statics) ≡ statics_in l.names l.tables l.statics
