-- What registers hold behind statements that are ready, and whose operands are what they take.
use Rattle.std.specs.Prelude.{Bool, true, false, List, Option, Some, None}
use Rattle.cf_core.specs.Types.{SourceType}
use Rattle.cf_plain.specs.Plain.{Register, Action, Plain, Plains}
use Rattle.cf_plain_kept.specs.Kept.{Kept, Keeping, keep, kept_by, after, after_all}
use Rattle.cf_lower_kept.specs.Ready.{action_ready, ready, all_ready}
use Rattle.cf_lowerable_ready.specs.declared.scene.Scene.{Scene}
use Rattle.cf_lowerable_ready.specs.Scenes.{locals_in, result_in}

-- what code tells that has an answer and what it has made of the registers
abbrev pub goes : Bool → Keeping → Option Keeping
goes true g = Some g
goes false g = None

abbrev pub when : Bool → Option Keeping → Option Keeping
when true o = o
when false o = None

-- a register holds what an action has left, if it has left something
abbrev pub setting : Keeping → Register → Option Kept → Option Keeping
setting g r None = None
setting g r (Some k) = Some (keep g r k)

abbrev pub kept_when : Bool → Option Kept → Option Kept
kept_when true k = k
kept_when false k = None

module _ (locals : List SourceType) (result : SourceType) where
  -- what an action gives
  abbrev pub gives : Keeping → Action → Option Kept
  gives g a = kept_when (action_ready locals result g a) (kept_by locals result g a)

  abbrev pub step : Plain → Keeping → Option Keeping
  step s g = when (ready locals result s g) (after locals result s g)

  abbrev pub steps : Plains → Keeping → Option Keeping
  steps ss g = when (all_ready locals result ss g) (after_all locals result ss g)

abbrev pub gives_in : Scene → Keeping → Action → Option Kept
gives_in x = gives (locals_in x) (result_in x)

abbrev pub step_in : Scene → Plain → Keeping → Option Keeping
step_in x = step (locals_in x) (result_in x)

abbrev pub steps_in : Scene → Plains → Keeping → Option Keeping
steps_in x = steps (locals_in x) (result_in x)
