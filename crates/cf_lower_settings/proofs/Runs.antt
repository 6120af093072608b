-- Runs of the source that give something in the same world, end in an undefined act, or are none that sequencing makes.
use Rattle.std.proofs.Common.{◌≡◌, refl, sym, subst}
use Rattle.std.specs.Prelude.{Option, Some, None}
use Rattle.cf_base.specs.Event.{Ended, Ticks, Depth, Undefined}
use Rattle.cf_base.specs.World.{World, Ran, Went, Stops, and_then}
use Rattle.cf_core.specs.Store as source
use Rattle.cf_core.specs.Run.{State, Did, Gives, Exits, Malformed, Act, onward, ◌>>=◌, malformed, some_or}
use Rattle.cf_plain.specs.Plain.{Register}
use Rattle.cf_plain.specs.Acts.{Registers, held}

-- an act gives such a value in such a state and the same world; or the run ends in an undefined act, or is none that sequencing makes
abbrev pub GivesFrom : {A : Type 0} → Ran (Did A) → World → (A → State → Type 0) → Type 0
GivesFrom (Went (Gives v t) u) w R = (u ≡ w) × R v t
GivesFrom (Went (Exits z t) u) w R = ⊥
GivesFrom (Went Malformed u) w R = Unit {0}
GivesFrom (Stops (Undefined act) trace) w R = trace ≡ w.trace
GivesFrom (Stops (Ended z) trace) w R = ⊥
GivesFrom (Stops Ticks trace) w R = ⊥
GivesFrom (Stops Depth trace) w R = ⊥

pub record GivesAs {A : Type 0} (ran : Ran (Did A)) (w : World) (R : A → State → Type 0) : Type 0 where
  pub by : GivesFrom ran w R

-- and then another
pub gives-then : {A B : Type 0} (R : A → State → Type 0) (T : B → State → Type 0) (x : Ran (Did A)) (w : World) (next : A → Act B) → GivesAs x w R
    → ((v : A) (t : State) → R v t → GivesAs (next v t w) w T) → GivesAs (and_then x (λ did w. onward did next w)) w T
gives-then R T (Went (Gives v t) u) w next h go = subst (λ u. GivesAs (next v t u) w T) (sym h.by.0) (go v t h.by.1)
gives-then R T (Went (Exits z t) u) w next h go = absurd (h.by)
gives-then R T (Went Malformed u) w next h go = record { by = tt }
gives-then R T (Stops (Undefined n) trace) w next h go = record { by = h.by }
gives-then R T (Stops (Ended z) trace) w next h go = absurd (h.by)
gives-then R T (Stops Ticks trace) w next h go = absurd (h.by)
gives-then R T (Stops Depth trace) w next h go = absurd (h.by)

-- what is less
pub gives-map : {A : Type 0} (R T : A → State → Type 0) (x : Ran (Did A)) (w : World) → ((v : A) (t : State) → R v t → T v t) → GivesAs x w R → GivesAs x w T
gives-map R T (Went (Gives v t) u) w go h = record { by = (h.by.0, go v t h.by.1) }
gives-map R T (Went (Exits z t) u) w go h = absurd (h.by)
gives-map R T (Went Malformed u) w go h = record { by = tt }
gives-map R T (Stops (Undefined n) trace) w go h = record { by = h.by }
gives-map R T (Stops (Ended z) trace) w go h = absurd (h.by)
gives-map R T (Stops Ticks trace) w go h = absurd (h.by)
gives-map R T (Stops Depth trace) w go h = absurd (h.by)

-- what a register holds, or the run is none that sequencing makes
pub test-held : (Q : Ran (Did source.Value) → Type 0) (s : State) (w : World) → Q (Went Malformed w) → (regs : Registers) (r : Register) (go : source.Value → Act source.Value)
    → ((v : source.Value) → regs r ≡ Some v → Q (go v s w)) → Q ((held regs r >>= go) s w)
test-held Q s w wrong regs r go h = by (regs r) refl
  where
    by : (o : Option source.Value) → regs r ≡ o → Q ((some_or o malformed >>= go) s w)
    by None e = wrong
    by (Some v) e = h v e
