-- What follows a run in both: statements behind statements, the turns of a loop, the end of a switch.
use Rattle.std.proofs.Common.{◌≡◌, refl, sym, ◌∙◌, ap, subst}
use Rattle.std.specs.Prelude.{ℤ}
use Rattle.cf_base.specs.Event.{Ended, Ticks, Depth, Undefined}
use Rattle.cf_base.specs.World.{World, Ran, Went, Stops, and_then}
use Rattle.cf_base.specs.Agree.{Adds}
use Rattle.cf_base.proofs.Agreement.{adds-then}
use Rattle.cf_core.specs.Run.{State, Did, Gives, Exits, Malformed, Act, onward}
use Rattle.cc_whole_mean.specs.Flow as c
use Rattle.cc_whole_mean.specs.Flow.{falling, turning, switching}
use Rattle.cf_lower_control.specs.Loops.{IsReturn}
use Rattle.cf_lower_control.specs.StepsFlows.{Simulates, Leaves}

-- Where both have gone on they go on as before; where `exit` was called the C does nothing more.
pub sim-next : {A B : Type 0} (Q : A → State → c.Flow → Type 0) (S : B → State → c.Flow → Type 0) (x : Ran (Did A)) (y : Ran c.Flow) (f : A → Act B)
    (go : c.Flow → World → Ran c.Flow) → Simulates Q x y
    → ((a : A) (s : State) (flow : c.Flow) (w : World) → Q a s flow → Simulates S (f a s w) (go flow w))
    → ((z : ℤ) (t : c.State) (w : World) → go (c.Exits z t) w ≡ Went (c.Exits z t) w)
    → ((flow : c.Flow) (w : World) → Adds w.trace (go flow w))
    → Simulates S (and_then x (λ did w. onward did f w)) (and_then y go)
sim-next Q S (Went (Gives a s) w) y f go h next exits adds =
    subst (λ r. Simulates S (f a s w) r) (sym (ap (λ r. and_then r go) h.by.run)) (next a s h.by.value w h.by.related)
sim-next Q S (Went (Exits z s) w) y f go h next exits adds =
    record { by = record { after = h.by.after; run = ap (λ r. and_then r go) h.by.run ∙ exits z h.by.after w } }
sim-next Q S (Went Malformed w) y f go h next exits adds = record { by = tt }
sim-next Q S (Stops (Undefined act) trace) y f go h next exits adds = record { by = (adds-then trace y go (record { by = h.by }) adds).by }
sim-next Q S (Stops (Ended status) trace) y f go h next exits adds = record { by = ap (λ r. and_then r go) h.by }
sim-next Q S (Stops Ticks trace) y f go h next exits adds = record { by = ap (λ r. and_then r go) h.by }
sim-next Q S (Stops Depth trace) y f go h next exits adds = record { by = ap (λ r. and_then r go) h.by }

-- both are where they are
pub sim-here : {A : Type 0} (S : A → State → c.Flow → Type 0) (a : A) (s : State) (w : World) (y : Ran c.Flow) (flow : c.Flow) → y ≡ Went flow w → S a s flow
    → Simulates S (Went (Gives a s) w) y
sim-here S a s w y flow run related = record { by = record { value = flow; run = run; related = related } }

-- what is so of the C's run is so of another that is the same
pub sim-as : {A : Type 0} (S : A → State → c.Flow → Type 0) (x : Ran (Did A)) (y z : Ran c.Flow) → z ≡ y → Simulates S x y → Simulates S x z
sim-as S x y z e h = subst (λ r. Simulates S x r) (sym e) h

-- and of the source's
pub sim-of : {A : Type 0} (S : A → State → c.Flow → Type 0) (x z : Ran (Did A)) (y : Ran c.Flow) → z ≡ x → Simulates S x y → Simulates S z y
sim-of S x z y e h = subst (λ r. Simulates S r y) (sym e) h

-- what is related so is related otherwise
pub sim-map : {A : Type 0} (Q S : A → State → c.Flow → Type 0) → ((a : A) (s : State) (flow : c.Flow) → Q a s flow → S a s flow) → (x : Ran (Did A)) (y : Ran c.Flow)
    → Simulates Q x y → Simulates S x y
sim-map Q S more (Went (Gives a s) w) y h = record { by = record { value = h.by.value; run = h.by.run; related = more a s h.by.value h.by.related } }
sim-map Q S more (Went (Exits z s) w) y h = record { by = h.by }
sim-map Q S more (Went Malformed w) y h = record { by = tt }
sim-map Q S more (Stops (Undefined act) trace) y h = record { by = h.by }
sim-map Q S more (Stops (Ended status) trace) y h = record { by = h.by }
sim-map Q S more (Stops Ticks trace) y h = record { by = h.by }
sim-map Q S more (Stops Depth trace) y h = record { by = h.by }

-- ---- what leaves and what returns passes

pub leaves-pass : (go : c.State → World → Ran c.Flow) (flow : c.Flow) (w : World) → Leaves flow → falling go flow w ≡ Went flow w
leaves-pass go (c.Falls t) w h = absurd h
leaves-pass go (c.Breaks t) w h = refl
leaves-pass go (c.Continues t) w h = refl
leaves-pass go (c.Returns v t) w h = refl
leaves-pass go (c.Exits z t) w h = refl

pub return-falls : (go : c.State → World → Ran c.Flow) (flow : c.Flow) (w : World) → IsReturn flow → falling go flow w ≡ Went flow w
return-falls go (c.Falls t) w h = absurd h
return-falls go (c.Breaks t) w h = absurd h
return-falls go (c.Continues t) w h = absurd h
return-falls go (c.Returns v t) w h = refl
return-falls go (c.Exits z t) w h = absurd h

pub return-turns : (go : c.State → World → Ran c.Flow) (flow : c.Flow) (w : World) → IsReturn flow → turning go flow w ≡ Went flow w
return-turns go (c.Falls t) w h = absurd h
return-turns go (c.Breaks t) w h = absurd h
return-turns go (c.Continues t) w h = absurd h
return-turns go (c.Returns v t) w h = refl
return-turns go (c.Exits z t) w h = absurd h

pub return-switches : (flow : c.Flow) → IsReturn flow → switching flow ≡ flow
return-switches (c.Falls t) h = absurd h
return-switches (c.Breaks t) h = absurd h
return-switches (c.Continues t) h = absurd h
return-switches (c.Returns v t) h = refl
return-switches (c.Exits z t) h = absurd h
