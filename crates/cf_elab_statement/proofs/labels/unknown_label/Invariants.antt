use Rattle.std.proofs.Common.{◌≡◌, drop}
use Rattle.cf_elab_statement.specs.Labels.{unknown_label}
use Rattle.cf_elab_statement.proofs.labels.unknown_label.Given as goal

abbrev pub invariant-loop-made : goal.invariant-loop-made
invariant-loop-made l = unknown_label (drop l.made-index l.statements) ≡ unknown_label l.statements
