-- Labels as the definitions of elaboration see them.
use Rattle.cf_elab.specs.Statement as statement
use Rattle.cf_elab_made.specs.declared.made.Label.{Label}
use Rattle.cf_elab_made.specs.declared.made.Label.TheVariants as label

abbrev pub label_seen : Label → statement.Label
label_seen label.None = statement.no_label
label_seen (label.Case v) = statement.case_label v
label_seen label.Default = statement.default_label
