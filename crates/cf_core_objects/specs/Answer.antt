-- What an answer of the runner says of a run of the meaning.
use Rattle.std.specs.Prelude.{◌≡◌, Result, Ok, Err}
use Rattle.cf_base.specs.Event.{Undefined}
use Rattle.cf_base.specs.World.{World, Ran, Went, Stops}
use Rattle.cf_core.specs.Run.{State, Did, Gives, Malformed}
use Rattle.cf_core_objects.specs.declared.answer.Stop.{Stop}
use Rattle.cf_core_objects.specs.declared.answer.Stop.TheVariants as stop

-- the run stops so
abbrev pub Stopped : {B : Type 0} → Stop → World → Ran (Did B) → Type 0
Stopped (stop.Act n) w r = r ≡ Stops (Undefined n) w.trace
Stopped stop.Malformed w r = r ≡ Went Malformed w
Stopped stop.Memory w r = Unit {0}

-- the run has given this in this state, or stops as the answer says; the world is as before
abbrev pub Told : {A B : Type 0} → (A → B) → Result A Stop → State → World → Ran (Did B) → Type 0
Told view (Ok a) s w r = r ≡ Went (Gives (view a) s) w
Told view (Err e) s w r = Stopped e w r
