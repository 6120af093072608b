-- An act that never is malformed from a moment: it goes on with a value that is so, `exit` is called, or the run ends.
use Rattle.std.specs.Prelude.{ℕ, ◌<◌, List, [], ◌∷◌}
use Rattle.cf_base.specs.World.{World, Ran, Went, Stops}
use Rattle.cf_core.specs.Types.{SourceType}
use Rattle.cf_core.specs.Run.{State, Did, Gives, Exits, Malformed, Act}
use Rattle.cf_core.specs.Calls.{Program}
use Rattle.cf_core_sound.specs.States.{Behind}

-- an input of bytes: a greater number that is read is no int
abbrev pub OfBytes : List ℕ → Type 0
OfBytes [] = Unit {0}
OfBytes (b ∷ rest) = (b < 256) × OfBytes rest

abbrev pub GoesOn : {A : Type 0} → (A → State → World → Type 0) → Ran (Did A) → Type 0
GoesOn Q (Went (Gives a s) w) = Q a s w
GoesOn Q (Went (Exits status s) w) = Unit {0}
GoesOn Q (Went Malformed w) = ⊥
GoesOn Q (Stops end trace) = Unit {0}

-- a run that goes on in a sound moment, with a value that is so there
pub record Ends {A : Type 0} (P : Program) (locals : List SourceType) (s : State) (Q : A → State → Type 0) (x : Ran (Did A)) : Type 0 where
  pub by : GoesOn (λ a t w. Behind P locals s t × Q a t × OfBytes w.input) x

-- whatever the world is, with an input of bytes
pub record Well {A : Type 0} (P : Program) (locals : List SourceType) (s : State) (Q : A → State → Type 0) (act : Act A) : Type 0 where
  pub by : (w : World) → OfBytes w.input → Ends P locals s Q (act s w)
