-- The labels of each switch of a core are of one kind: they are converted to the promoted type of what the switch goes by (6.4.2).
use Rattle.std.specs.Prelude.{Bool, true}
use Rattle.cf_core.specs.Core.{Core, switch, CoreFile}
use Rattle.cf_lower_program.specs.Labels.{one_kind}
use Rattle.cf_sequence_lowered.specs.Nodes.{in_functions, core_labels}

abbrev pub labels_agree : Core → Bool
labels_agree (switch e es) = one_kind (core_labels es)
labels_agree e = true

abbrev pub all_labels_agree : CoreFile → Bool
all_labels_agree file = in_functions labels_agree file
