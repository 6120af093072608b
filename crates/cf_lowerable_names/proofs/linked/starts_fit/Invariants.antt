use Rattle.std.proofs.Common.{◌≡◌, drop}
use Rattle.cf_lowerable_names.specs.Linked.{starts_fit}
use Rattle.cf_lowerable_names.proofs.linked.starts_fit.Given as goal

abbrev pub invariant-loop-object : goal.invariant-loop-object
invariant-loop-object l = starts_fit l.known l.tables (drop l.object-index l.statics) ≡ starts_fit l.known l.tables l.statics
