-- Where statements lead to by what is open behind them.
use Rattle.std.specs.Prelude.{◌≡◌, ℕ, Bool, true, false, List, None}
use Rattle.cf_plain.specs.Plain.{Plain}
use Rattle.cf_plain_kept.specs.Kept as plain
use Rattle.cf_lower.specs.Kept.{Keeping, after}
use Rattle.cf_lower_kept.specs.Opened.{Opened, Where, falls, away, wrong, Ways, no_label, opens}
use Rattle.cf_lower_kept.specs.Told.{AllTold}
use Rattle.cf_lower_turns.specs.Around.{Around}
use Rattle.cf_lower_turns.specs.Scene.{Scene}
use Rattle.cf_lower_bounds.specs.Points.{Point, point_at, point_never}
use Rattle.cf_lower_bounds.specs.Bounds.{LeafRunsTo}

-- the point behind
abbrev pub point_of : Keeping → Where → Point
point_of h (falls xs) = point_at h xs
point_of h away = point_never h
point_of h wrong = point_never h

abbrev pub is_right : Where → Bool
is_right wrong = false
is_right x = true

-- in a function, outside of its loops and switches
abbrev pub no_ways : Ways
no_ways = record { breaks = None; continues = None; labels = no_label }

-- statements that fit lead from the point of what is open before them to that of what is open behind, whatever stands around
abbrev pub LeavesLead : Scene → ℕ → (Keeping → Plain → Bool) → Type 0
LeavesLead z n fits =
    (around : Around Point) (g : plain.Keeping) (h : Keeping) (w : Ways) (xs : List Opened) → AllTold z.inside.locals g h → (s : Plain) → fits h s ≡ true
    → is_right (opens z.inside.locals.types z.inside.result s g w xs) ≡ true
    → LeafRunsTo z n around (point_at h xs) s (point_of (after z.inside.locals s h) (opens z.inside.locals.types z.inside.result s g w xs))
