-- What follows a call in both, once the function has come back.
use Rattle.std.proofs.Common.{◌≡◌, ℕ, zero, suc, List, refl, sym, ◌∙◌, ap, subst}
use Rattle.std.specs.Prelude.{ℤ, Option}
use Rattle.cf_base.specs.Event.{Ended, Ticks, Depth, Undefined}
use Rattle.cf_base.specs.World.{World, Ran, Went, Stops, and_then, spend_of, deeper}
use Rattle.cf_base.specs.Agree.{Adds}
use Rattle.cf_base.proofs.Agreement.{adds-then}
use Rattle.cf_core.specs.Types.{SourceType}
use Rattle.cf_core.specs.Store as source
use Rattle.cf_core.specs.Run.{State, Did, Gives, Exits, Malformed, Act, onward, ◌>>◌, gives, changed, with_frame}
use Rattle.cf_core.specs.Calls.{given_value, returned}
use Rattle.cf_lower_layout.specs.Sorts.{Sort}
use Rattle.cf_plain.specs.Running.{Flow, Falls, Breaks, Continues, Returns, core_flow}
use Rattle.cc_whole_memory.specs.Blocks.{Memory}
use Rattle.cc_whole_mean.specs.Flow as c
use Rattle.cf_lower_relate.specs.Map.{Fixed, Map}
use Rattle.cf_lower_steps.specs.Flows.{Simulates, ExitsAs}
use Rattle.cf_plain_frames.specs.Since.{Always}
use Rattle.cf_lower_place.specs.Input.{IsInput}
use Rattle.cf_lower_turns.specs.Texts.{Texts}
use Rattle.cf_lower_calls.specs.Returns.Called.{CameBack, ComesBack}

-- one run behind another, and what follows both
pub then-follows : {A B C : Type 0} (x : Ran A) (f : A → World → Ran B) (g : B → World → Ran C) → and_then (and_then x f) g ≡ and_then x (λ a w. and_then (f a w) g)
then-follows (Went a w) f g = refl
then-follows (Stops end trace) f g = refl

-- a tick and a level of depth are spent in both
pub sim-entered : {A B C : Type 0} (S : C → State → c.Flow → Type 0) (x : ℕ → World → Ran (Did A)) (y : ℕ → World → Ran B) (k : Did A → World → Ran (Did C))
    (l : B → World → Ran c.Flow) → ((d : ℕ) (w : World) → IsInput w.input → Simulates S (and_then (x d w) k) (and_then (y d w) l)) → (n d : ℕ) (w : World) → IsInput w.input
    → Simulates S (and_then (spend_of n w (λ w. deeper d w (λ d. x d w))) k) (and_then (spend_of n w (λ w. deeper d w (λ d. y d w))) l)
sim-entered S x y k l same zero d w i = record { by = refl }
sim-entered S x y k l same (suc n) zero w i = record { by = refl }
sim-entered S x y k l same (suc n) (suc d) w i = same d (record w { ticks = n }) i

module _ {A : Type 0} (K : Fixed) (texts : Texts) (E : Map) (first : Memory) (s : State) (os : List ℕ) (result : Option Sort) (t : SourceType) (S : A → State → c.Flow → Type 0)
    (k : source.Value → Act A) (go : c.Flow → World → Ran c.Flow)
    (exits : (z : ℤ) (u : c.State) (w : World) → ExitsAs z w (go (c.Exits z u) w))
    (adds : (flow : c.Flow) (w : World) → Adds w.trace (go flow w))
    (T : State → Type 0)
    (next : (v : source.Value) (u : State) (flow : c.Flow) (w : World) → CameBack K texts E first s os result v u flow → T u
    → Simulates S (k (given_value t v) (with_frame s.frame u) w) (go flow w)) where
  -- the source's part of it: the frame of the caller stands again, and the value is given
  abbrev behind : Ran (Did Flow) → Ran (Did A)
  behind x =
      and_then (and_then (and_then x (λ did w. onward did (λ flow. gives (core_flow flow)) w)) (λ did w. onward did (λ flow. changed (with_frame s.frame) >> returned t flow) w))
      (λ did w. onward did k w)

  came-back : (flow : Flow) (u : State) (d : c.Flow) (w : World) → ComesBack K texts E first s os result flow u d → T u
      → Simulates S (behind (Went (Gives flow u) w)) (go d w)
  came-back (Falls g) u d w h q = next source.Nothing u d w h q
  came-back (Returns v) u d w h q = next v u d w h q
  came-back (Breaks g) u d w h q = absurd h
  came-back (Continues g) u d w h q = absurd h

  -- where the states in which the function ends are so
  pub sim-back : (x : Ran (Did Flow)) (y : Ran c.Flow) → Always T x → Simulates (ComesBack K texts E first s os result) x y → Simulates S (behind x) (and_then y go)
  sim-back (Went (Gives flow u) w) y q h =
      subst (λ r. Simulates S (behind (Went (Gives flow u) w)) r) (sym (ap (λ r. and_then r go) h.by.run)) (came-back flow u h.by.value w h.by.related q.by)
  sim-back (Went (Exits z u) w) y q h =
      let done = exits z h.by.after w in
      record { by = record { after = done.after; run = ap (λ r. and_then r go) h.by.run ∙ done.run } }
  sim-back (Went Malformed w) y q h = record { by = tt }
  sim-back (Stops (Undefined act) trace) y q h = record { by = (adds-then trace y go (record { by = h.by }) adds).by }
  sim-back (Stops (Ended status) trace) y q h = record { by = ap (λ r. and_then r go) h.by }
  sim-back (Stops Ticks trace) y q h = record { by = ap (λ r. and_then r go) h.by }
  sim-back (Stops Depth trace) y q h = record { by = ap (λ r. and_then r go) h.by }
