use Rattle.cf_elab_statement.proofs.LabelLaws.{HasFirst, IsLeft}
use Rattle.cf_elab_statement.proofs.labels.repeated_label.Given as goal

abbrev pub invariant-loop-made : goal.invariant-loop-made
invariant-loop-made l = record {
  has : HasFirst l.kind l.statements l.made-index l.before.values.keys l.before.has_default;
  left : IsLeft l.kind l.statements l.made-index;
}
