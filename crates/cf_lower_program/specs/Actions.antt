-- Which actions of initialisers are lowered: operators are of kinds that integral promotion leaves as they are (4.1).
use Rattle.std.specs.Prelude.{Bool, true}
use Rattle.std.specs.List.{flat_map, list_all}
use Rattle.cf_plain.specs.Plain.{Action, operate, unary, changed, PlainStatic, PlainFile}
use Rattle.cf_plain.specs.Named.{all_actions}
use Rattle.cf_lower_place.specs.Leaf.{is_promoted, is_promoted_change}

abbrev pub has_promoted : Action → Bool
has_promoted (operate op k r q) = is_promoted k
has_promoted (unary op k r) = is_promoted k
has_promoted (changed change r q) = is_promoted_change change
has_promoted a = true

abbrev pub actions_lowered : PlainFile → Bool
actions_lowered file = list_all has_promoted (flat_map (λ (x : PlainStatic). all_actions x.start) file.statics)
