-- What an action gives beside what the C local of its register gets.
use Rattle.std.specs.Prelude.{◌≡◌, ◌<◌, ◌⊎◌, Some}
use Rattle.cf_core.specs.Store as source
use Rattle.cf_plain.specs.Plain.{Register, Action, act, set}
use Rattle.cf_plain.specs.Acts.{Registers}
use Rattle.cf_lower.specs.Kept.{Kept, keep}
use Rattle.cf_lower_steps.specs.Lowering.{falls_only}
use Rattle.cf_lower_steps.specs.Moment.{Moment, Lowers}

-- a register that is set by the action holds this in both, and nothing else has changed
abbrev pub Sets : Action → Kept → Moment → Type 0
Sets a y at = (r : Register) → r < at.own.bound → Lowers at (set r a) (keep at.kept r y) falls_only

-- where the value isn't kept, nothing has changed
abbrev pub Drops : Action → Moment → Type 0
Drops a at = Lowers at (act a) at.kept falls_only

-- one of two registers holds a null pointer
abbrev pub OneIsNull : Registers → Register → Register → Type 0
OneIsNull g r q = (g r ≡ Some source.Null) ⊎ (g q ≡ Some source.Null)
