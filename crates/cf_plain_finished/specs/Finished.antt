-- No static object is to be destroyed: none has a destructor where there are no classes.
use Rattle.std.specs.Prelude.{◌≡◌, []}
use Rattle.cf_base.specs.World.{World, Ran, Went, Stops}
use Rattle.cf_core.specs.Run.{State, Did, Gives, Exits, Malformed, Act}

-- where a run goes on, or `exit` is called, its state is so
abbrev pub AlwaysIn : {A : Type 0} → (State → Type 0) → Ran (Did A) → Type 0
AlwaysIn Q (Went (Gives a s) w) = Q s
AlwaysIn Q (Went (Exits status s) w) = Q s
AlwaysIn Q (Went Malformed w) = Unit {0}
AlwaysIn Q (Stops end trace) = Unit {0}

pub record Always {A : Type 0} (Q : State → Type 0) (x : Ran (Did A)) : Type 0 where
  pub by : AlwaysIn Q x

-- what is so before an act is so behind it
pub record Keeps {A : Type 0} (Q : State → Type 0) (act : Act A) : Type 0 where
  pub by : (s : State) (w : World) → Q s → Always Q (act s w)

abbrev pub NoneFinished : State → Type 0
NoneFinished s = s.finished ≡ []
