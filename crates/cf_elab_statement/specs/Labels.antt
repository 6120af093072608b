-- The labels of a switch: the place of the first one at fault (6.4.2).
use Rattle.std.specs.Prelude.{ℕ, Bool, false, not, is_some, ◌&&◌, ◌||◌, if◌then◌else◌, List, [], ◌∷◌, ◌++◌, ℤ, Option, None, Some}
use Rattle.std.specs.List.{list_any}
use Rattle.std.specs.Ordering.{int_eq}
use Rattle.cf_base.specs.declared.kind.Kind.{Kind}
use Rattle.cf_core.specs.declared.node.Core.{Core as Node}
use Rattle.cf_core.specs.declared.node.Core.TheVariants as node
use Rattle.cf_elab.specs.Statement.{Label, no_label, case_label, default_label, Made, same_label, label_number, is_label, number_or_zero}

abbrev pub is_unknown : Label → Bool
is_unknown (case_label v) = not (is_some v.number)
is_unknown other = false

-- no constant
abbrev pub unknown_label : List Made → Option ℕ
unknown_label [] = None
unknown_label (m ∷ ms) = if is_unknown m.label then Some m.at else unknown_label ms

abbrev pub same_labels : Kind → Made → Made → Bool
same_labels k m n = same_label k m.label n.label

-- whether a table of values has one
abbrev pub has_value : List ℤ → Option ℤ → Bool
has_value values None = false
has_value values (Some z) = list_any (int_eq z) values

-- whether a table of the values of cases, and of whether `default` is among them, has the label
abbrev pub has_label : Kind → List ℤ → Bool → Label → Bool
has_label k values default no_label = false
has_label k values default (case_label v) = has_value values (label_number k v)
has_label k values default default_label = default

-- the same as one of those before
abbrev pub repeated_behind : Kind → List Made → List Made → Option ℕ
repeated_behind k before [] = None
repeated_behind k before (m ∷ ms) = if list_any (same_labels k m) before then Some m.at else repeated_behind k (before ++ m ∷ []) ms

abbrev pub repeated_label : Kind → List Made → Option ℕ
repeated_label k ms = repeated_behind k [] ms

-- behind a declaration with an initialiser
abbrev pub passing_behind : Bool → List Made → Option ℕ
passing_behind passed [] = None
passing_behind passed (m ∷ ms) = if passed && is_label m.label then Some m.at else passing_behind (passed || m.initialises) ms

abbrev pub passing_label : List Made → Option ℕ
passing_label ms = passing_behind false ms

-- the node of a label itself
abbrev pub own_node : Kind → Made → Option Node
own_node k m = of_label m.at m.label
  where
    of_label : ℕ → Label → Option Node
    of_label at no_label = None
    of_label at (case_label v) = Some (node.Case at (number_or_zero (label_number k v)))
    of_label at default_label = Some (node.Default at)
