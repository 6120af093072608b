-- The labels of a switch.
use Rattle.std.specs.Prelude.{int_le, Bool, true, false, ◌&&◌, not, []}
use Rattle.cf_base.specs.declared.kind.Kind.{Kind}
use Rattle.cf_base.specs.Integers.{fits}
use Rattle.cf_plain.specs.Plain.{Plain, Plains, case_label, default_label}
use Rattle.cf_plain.specs.Running.{has_case}
use Rattle.cf_plain.specs.Valid.{has_default}
use Rattle.cf_lowerable_places.specs.declared.labels.Label.{Label}
use Rattle.cf_lowerable_places.specs.declared.labels.Label.TheVariants as label

abbrev pub label_in : Plain → Label
label_in (case_label z) = label.Case z
label_in default_label = label.Default
label_in s = label.No

abbrev pub is_label : Label → Bool
is_label label.No = false
is_label l = true

abbrev pub same_label : Label → Label → Bool
same_label (label.Case z) (label.Case y) = int_le y z && int_le z y
same_label label.Default label.Default = true
same_label l k = false

-- whether no statement has the label
abbrev pub lacks : Label → Plains → Bool
lacks (label.Case z) ss = not (has_case z ss)
lacks label.Default ss = not (has_default [] ss)
lacks label.No ss = true

abbrev pub label_fits : Kind → Label → Bool
label_fits k (label.Case z) = fits k z
label_fits k l = true
