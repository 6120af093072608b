-- Where a `switch` goes to.
use Rattle.std.specs.Prelude.{ℕ, if◌then◌else◌, Option, Some, None}
use Rattle.cc_whole.specs.Plain.{SwitchItems, closed, labelled, otherwise, stated}
use Rattle.cc_whole_mean.specs.Mean.{is_wanted}

-- what stands behind the label that is wanted
abbrev pub behind_label : Option ℕ → SwitchItems → SwitchItems
behind_label label closed = closed
behind_label label (labelled c rest) = if is_wanted label c then rest else behind_label label rest
behind_label None (otherwise rest) = rest
behind_label (Some bits) (otherwise rest) = behind_label (Some bits) rest
behind_label label (stated st rest) = behind_label label rest
