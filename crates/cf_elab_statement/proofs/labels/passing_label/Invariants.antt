use Rattle.std.proofs.Common.{◌≡◌, drop}
use Rattle.cf_elab_statement.specs.Labels.{passing_behind, passing_label}
use Rattle.cf_elab_statement.proofs.labels.passing_label.Given as goal

abbrev pub invariant-loop-made : goal.invariant-loop-made
invariant-loop-made l = passing_behind l.passed (drop l.made-index l.statements) ≡ passing_label l.statements
