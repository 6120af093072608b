-- The point behind a statement that is no control, by what is open before it.
use Rattle.std.specs.Prelude.{Bool, true, false, List, [], ◌∷◌, None}
use Rattle.cf_plain.specs.Plain.{Plain, act, set, give}
use Rattle.cf_plain_kept.specs.Kept as plain
use Rattle.cf_lower.specs.Kept.{Keeping, Locals, after}
use Rattle.cf_lower_kept.specs.Opened.{Opened, action_opens, opened_by, set_by}
use Rattle.cf_lower_bounds.specs.Points.{Standing, never, these, Point}

-- whether the statement may stand where these are open, and registers hold this
abbrev pub leads_on : plain.Keeping → Plain → List Opened → Bool
leads_on g (act a) xs = action_opens g a xs
leads_on g (set r a) xs = action_opens g a xs
leads_on g (give r) [] = true
leads_on g s xs = false

-- what is open behind a statement that falls through
abbrev pub opened_behind : plain.Keeping → Plain → List Opened → List Opened
opened_behind g (act a) xs = opened_by g None a xs
opened_behind g (set r a) xs = set_by g r a xs
opened_behind g s xs = xs

abbrev pub standing_behind : plain.Keeping → Plain → List Opened → Standing
standing_behind g (act a) xs = these (opened_by g None a xs)
standing_behind g (set r a) xs = these (set_by g r a xs)
standing_behind g s xs = never

-- the point behind a leaf, where registers hold this before it
abbrev pub point_behind : Locals → plain.Keeping → Keeping → Plain → List Opened → Point
point_behind locals g h s xs = record { kept = after locals s h; standing = standing_behind g s xs }
