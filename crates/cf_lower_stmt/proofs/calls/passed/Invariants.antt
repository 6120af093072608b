use Rattle.std.proofs.Common.{◌≡◌, ◌++◌, drop, map}
use Rattle.cc_whole.specs.Plain.{expression_of}
use Rattle.cf_lower.specs.Statements as spec
use Rattle.cf_lower_stmt.proofs.calls.passed.Given as goal

abbrev pub invariant-loop-local : goal.invariant-loop-local
invariant-loop-local l = map expression_of l.made ++ spec.passed (drop l.local-index l.arguments) ≡ spec.passed l.arguments
