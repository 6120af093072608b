-- When a plain run follows a core's run: in step, with the same ticks and the same trace, over states that are the same but for the frame.
use Rattle.std.specs.Prelude.{◌≡◌, ℤ}
use Rattle.cf_base.specs.World.{World, Ran, Went, Stops}
use Rattle.cf_core.specs.Run.{State, Did, Gives, Exits, Malformed, with_frame}

-- The plain run has given a value in a state, which are related to the core's.
pub record GivesAs {A B : Type 0} (R : A → State → B → State → Type 0) (a : A) (s : State) (w : World) (y : Ran (Did B)) : Type 0 where
  pub value : B
  pub after : State
  pub run : y ≡ Went (Gives value after) w
  pub related : R a s value after

-- The plain run has called `exit` with the same status, in a state with the same objects.
pub record ExitsAs {B : Type 0} (status : ℤ) (s : State) (w : World) (y : Ran (Did B)) : Type 0 where
  pub after : State
  pub run : y ≡ Went (Exits status after) w
  pub same : after ≡ with_frame after.frame s

-- Of a core that is malformed nothing is said: elaboration makes none.
abbrev pub FollowsFrom : {A B : Type 0} → (A → State → B → State → Type 0) → Ran (Did A) → Ran (Did B) → Type 0
FollowsFrom R (Went (Gives a s) w) y = GivesAs R a s w y
FollowsFrom R (Went (Exits status s) w) y = ExitsAs status s w y
FollowsFrom R (Went Malformed w) y = Unit {0}
FollowsFrom R (Stops end trace) y = y ≡ Stops end trace

pub record Follows {A B : Type 0} (R : A → State → B → State → Type 0) (x : Ran (Did A)) (y : Ran (Did B)) : Type 0 where
  pub by : FollowsFrom R x y
