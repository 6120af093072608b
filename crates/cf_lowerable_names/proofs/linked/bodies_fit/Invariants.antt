use Rattle.std.proofs.Common.{◌≡◌, drop}
use Rattle.cf_lowerable_names.specs.Linked.{bodies_fit}
use Rattle.cf_lowerable_names.proofs.linked.bodies_fit.Given as goal

abbrev pub invariant-loop-function : goal.invariant-loop-function
invariant-loop-function l = bodies_fit l.known l.tables (drop l.function-index l.functions) ≡ bodies_fit l.known l.tables l.functions
