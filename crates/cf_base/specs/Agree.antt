-- When a run of the written text agrees with the run that the source means.
use Rattle.std.specs.Prelude.{◌≡◌, List, ◌++◌}
use Rattle.cf_base.specs.Event.{Event, End, Ended, Ticks, Depth, Undefined}
use Rattle.cf_base.specs.World.{World, Ran, Went, Stops, shown, Outcome}

-- the trace begins with these events
pub record Begins (front trace : List Event) : Type 0 where
  pub rest : List Event
  pub parts : trace ≡ front ++ rest

abbrev pub AgreesFrom : End → List Event → Outcome → Type 0
AgreesFrom (Undefined act) trace c = Begins trace c.trace
AgreesFrom (Ended status) trace c = c ≡ record { end = Ended status; trace = trace }
AgreesFrom Ticks trace c = c ≡ record { end = Ticks; trace = trace }
AgreesFrom Depth trace c = c ≡ record { end = Depth; trace = trace }

-- the same trace and end; where the source's run comes to an undefined act, its trace is a front of the other
pub record Agree (s c : Outcome) : Type 0 where
  pub by : AgreesFrom s.end s.trace c

-- The same of runs that may go on: both go on in equal worlds with results that R relates, or the two ends agree.
abbrev pub StopsAs : {B : Type 0} → End → List Event → Ran B → Type 0
StopsAs (Undefined act) trace y = Begins trace (shown y)
StopsAs (Ended status) trace y = y ≡ Stops (Ended status) trace
StopsAs Ticks trace y = y ≡ Stops Ticks trace
StopsAs Depth trace y = y ≡ Stops Depth trace

abbrev pub GoesOnAs : {A B : Type 0} → (A → B → Type 0) → A → World → Ran B → Type 0
GoesOnAs R a w (Went b v) = R a b × (w ≡ v)
GoesOnAs R a w (Stops end trace) = ⊥

abbrev pub Same : {A B : Type 0} → (A → B → Type 0) → Ran A → Ran B → Type 0
Same R (Went a w) y = GoesOnAs R a w y
Same R (Stops end trace) y = StopsAs end trace y

-- one run simulates another: `Same`, as a record, so that the prover finds its parts
pub record Sim {A B : Type 0} (R : A → B → Type 0) (x : Ran A) (y : Ran B) : Type 0 where
  pub by : Same R x y

-- a run's trace begins with these events
pub record Adds {A : Type 0} (trace : List Event) (y : Ran A) : Type 0 where
  pub by : Begins trace (shown y)
