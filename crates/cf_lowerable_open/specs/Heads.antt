-- What a statement is, as far as those before it ask.
use Rattle.std.specs.Prelude.{ℕ, ℤ, Bool, true, false, ◌&&◌, ◌==◌, if◌then◌else◌, int_le, List, [], ◌∷◌, Option, Some, None}
use Rattle.cf_plain.specs.Plain.{Register, Action, number, declare, finish, Plain, Plains, act, set, branch, switch, case_label, default_label, leave, nothing, more}
use Rattle.cf_lower_kept.specs.Opened.{Opened, is_listed, open_one, awaited, ended_by, stands_before}
use Rattle.cf_plain.specs.Running.{has_case}
use Rattle.cf_plain.specs.Valid.{has_default}
use Rattle.cf_lowerable_open.specs.declared.heads.Head.{Head}
use Rattle.cf_lowerable_open.specs.declared.heads.Head.TheVariants as head

abbrev pub is_number : Action → Bool
is_number (number z) = true
is_number a = false

abbrev pub head_of_action : Action → Head
head_of_action (declare i t) = head.Declares i
head_of_action a = head.Other

-- the local that is ended alone
abbrev pub finished_by : Action → Option ℕ
finished_by (finish t i) = Some i
finished_by a = None

abbrev pub finished : Plain → Option ℕ
finished (act a) = finished_by a
finished s = None

abbrev pub ended_alone : Plains → Option ℕ
ended_alone (more s nothing) = finished s
ended_alone ss = None

abbrev pub is_nothing : Plains → Bool
is_nothing nothing = true
is_nothing ss = false

abbrev pub head_of_branch : Register → Option ℕ → Bool → Head
head_of_branch r None b = head.Other
head_of_branch r (Some i) b = if b then head.Ends r i else head.Other

abbrev pub head_of : Plain → Head
head_of (act a) = head_of_action a
head_of (set r a) = head.Sets r (is_number a)
head_of (branch r ss ts) = head_of_branch r (ended_alone ss) (is_nothing ts)
head_of (case_label z) = head.Case z
head_of default_label = head.Default
head_of leave = head.Leaves
head_of s = head.Other

-- a switch, by its register and statements
abbrev pub as_switch : Plain → Option (Register × Plains)
as_switch (switch r ss) = Some (r, ss)
as_switch s = None

-- whether a switch has this label, a case or the default
abbrev pub has_label : Option ℤ → Plains → Bool
has_label None ss = has_default [] ss
has_label (Some z) ss = has_case z ss

-- ---- of what a head tells

-- whether it is this label
abbrev pub is_label : Option ℤ → Head → Bool
is_label (Some z) (head.Case y) = int_le y z && int_le z y
is_label None head.Default = true
is_label l h = false

-- whether it may stand in a switch that declares what the labels of this one pass
abbrev pub may_stand : Head → Plains → Bool
may_stand (head.Case z) ts = has_label (Some z) ts
may_stand head.Default ts = has_label None ts
may_stand (head.Declares i) ts = true
may_stand head.Leaves ts = true
may_stand h ts = false

-- the label that it is
abbrev pub label_of : Head → Option (Option ℤ)
label_of (head.Case z) = Some (Some z)
label_of head.Default = Some None
label_of h = None

-- whether it sets this register
abbrev pub is_set : Register → Head → Bool
is_set r (head.Sets q b) = q == r
is_set r h = false

-- whether it sets this register, or ends a local by it
abbrev pub is_end : Register → Head → Bool
is_end r (head.Sets q b) = q == r
is_end r (head.Ends q i) = q == r
is_end r h = false

-- the local that it ends by this register
abbrev pub ends : Register → Head → Option ℕ
ends r (head.Ends q i) = if q == r then Some i else None
ends r h = None

-- ---- what the statements behind are asked for, by heads

abbrev pub heads_of : Plains → List Head
heads_of nothing = []
heads_of (more s ss) = head_of s ∷ heads_of ss

-- what is open where a switch is left, behind declarations alone
abbrev pub declared_by : List Head → List Opened → Option (List Opened)
declared_by [] xs = None
declared_by (head.Declares i ∷ hs) xs = if is_listed i xs then None else declared_by hs (open_one i None false ∷ xs)
declared_by (head.Leaves ∷ hs) xs = Some xs
declared_by (h ∷ hs) xs = None

-- at a label of it
abbrev pub labelled_by : List Head → List Opened → Option ℤ → Option (List Opened)
labelled_by [] xs l = None
labelled_by (h ∷ hs) xs l = if is_label l h then declared_by hs xs else labelled_by hs xs l

abbrev pub prepared_by : Head → Plains → List Opened → List Opened
prepared_by (head.Sets r true) ss xs = awaited r (ended_by r ss) xs
prepared_by h ss xs = xs

-- a switch and the register and statements of one behind it, before which it declares what labels pass
abbrev pub passes : Option (Register × Plains) → Option (Register × Plains) → Bool
passes (Some (q, ss)) (Some (r, ts)) = (q == r) && stands_before ss ts
passes p s = false

abbrev pub first_switch : Plains → Option (Register × Plains)
first_switch nothing = None
first_switch (more s ss) = as_switch s
