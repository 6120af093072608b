-- `break` and `continue` beside their C, by what stands around them.
use Rattle.std.proofs.Common.{◌≡◌, ℕ, suc, ◌<◌, [], ◌∷◌, refl, sym, subst, arith}
use Rattle.std.specs.Prelude.{Option, Some, None}
use Rattle.cf_base.specs.World.{World, Went}
use Rattle.cf_core.specs.Run.{State, Gives}
use Rattle.cf_plain.specs.Acts.{Registers}
use Rattle.cf_plain.specs.Running.{Flow, Falls, Breaks, Continues, Returns}
use Rattle.cc_whole.specs.Plain as c_tree
use Rattle.cf_lower.specs.Statements.{flag_set}
use Rattle.cc_whole_mean.specs.Flow as c
use Rattle.cc_whole_mean.specs.Flow.{in_memory}
use Rattle.cf_lower_turns.specs.ControlLoops.{IsReturn}
use Rattle.cf_lower_steps.specs.Flows.{Simulates, Leaves}
use Rattle.cf_lower_turns.specs.Around.{Around, function, turns, stepped, step, cases, depth_of, left_to, gone_on_to, leaving_of, going_on_of}
use Rattle.cf_lower_turns.specs.Ways.{EndsBy, flagged}
use Rattle.cf_lower_turns.proofs.Following.{sim-here}
use Rattle.cf_lower_bounds.proofs.Setup.{Setup, Runners, ways_of, ends, Within, WithinIf, list}
use Rattle.cf_lower_bounds.proofs.Written.{flag-then}

module _ (z : Setup) (m : Runners) where
  -- a flag that may be one more is below the bound
  one-more : (p : z.Point) (d : ℕ) (g : Registers) (s : State) (t : c.State) → z.R p (suc d) g s t → d < z.flags
  one-more p d g s t h = let b = z.laws.bounded p (suc d) g s t h in omega (arith, b)

  -- the flag is set, and the C breaks
  flag-leaves : (p q : z.Point) (d : ℕ) (g : Registers) (s : State) (t : c.State) (w : World) → Within z p q → z.R p (suc d) g s t
      → (S : Flow → State → c.Flow → Type 0) (flow : Flow) → ((x : c.Flow) → flagged z.Point z.scope z.R z.gives (Some q) d g s x → S flow s x)
      → Simulates S (Went (Gives flow s) w) (list z m (flag_set d 1 ∷ c_tree.leave ∷ []) t w)
  flag-leaves p q d g s t w within h S flow made =
      let at : z.R q d g s t = within d g s t (z.laws.fewer p d g s t h) in
      let done = z.laws.set q d 1 g s t (one-more p d g s t h) refl at in
      sim-here S flow s w (list z m (flag_set d 1 ∷ c_tree.leave ∷ []) t w) (c.Breaks (in_memory t done.after))
      (flag-then m.c_again m.helps m.c_program m.grown m.helped m.helper z.scope m.depth d 1 (λ k. z.R q d g s (in_memory t k)) t w (c_tree.leave ∷ []) done)
      (made (c.Breaks (in_memory t done.after)) (record { after = in_memory t done.after; is = refl; related = (done.related, done.shows) }))

  pub leave-does : (around : Around z.Point) (p q : z.Point) → WithinIf z p (left_to around) → (g : Registers) (s : State) (t : c.State) (w : World)
      → z.R p (depth_of around) g s t → Simulates (ends z around q) (Went (Gives (Breaks g) s) w) (list z m (leaving_of around) t w)
  leave-does function p q within g s t w h = absurd within
  leave-does (turns k around) p q within g s t w h =
      sim-here (ends z (turns k around) q) (Breaks g) s w (Went (c.Breaks t) w) (c.Breaks t) refl
      (record { after = t; is = refl; related = within (depth_of around) g s t h })
  leave-does (stepped k around) p q within g s t w h =
      flag-leaves p k (depth_of around) g s t w within h (ends z (stepped k around) q) (Breaks g) (λ x e. e)
  leave-does (step k around) p q within g s t w h =
      sim-here (ends z (step k around) q) (Breaks g) s w (Went (c.Breaks t) w) (c.Breaks t) refl
      (record { after = t; is = refl; related = within (depth_of around) g s t h })
  leave-does (cases k around) p q within g s t w h =
      sim-here (ends z (cases k around) q) (Breaks g) s w (Went (c.Breaks t) w) (c.Breaks t) refl
      (record { after = t; is = refl; related = within (suc (depth_of around)) g s t h })

  pub continue-does : (around : Around z.Point) (p q : z.Point) → WithinIf z p (gone_on_to around) → (g : Registers) (s : State) (t : c.State) (w : World)
      → z.R p (depth_of around) g s t → Simulates (ends z around q) (Went (Gives (Continues g) s) w) (list z m (going_on_of around) t w)
  continue-does function p q within g s t w h = absurd within
  continue-does (turns k around) p q within g s t w h =
      sim-here (ends z (turns k around) q) (Continues g) s w (Went (c.Continues t) w) (c.Continues t) refl
      (record { after = t; is = refl; related = within (depth_of around) g s t h })
  continue-does (stepped k around) p q within g s t w h =
      sim-here (ends z (stepped k around) q) (Continues g) s w (Went (c.Breaks t) w) (c.Breaks t) refl
      (record { after = t; is = refl; related = within (suc (depth_of around)) g s t h })
  continue-does (step k around) p q within g s t w h = absurd within
  continue-does (cases k around) p q within g s t w h = by_target (gone_on_to around) refl within
    where
      by_target : (o : Option z.Point) → gone_on_to around ≡ o → WithinIf z p o
          → Simulates (ends z (cases k around) q) (Went (Gives (Continues g) s) w) (list z m (flag_set (depth_of around) 1 ∷ c_tree.leave ∷ []) t w)
      by_target None e i = absurd i
      by_target (Some r) e i =
          flag-leaves p r (depth_of around) g s t w i h (ends z (cases k around) q) (Continues g)
          (λ x y. subst (λ o. flagged z.Point z.scope z.R z.gives o (depth_of around) g s x) (sym e) y)

  -- ---- no way out falls in C

  end-leaves : (way : c.State → c.Flow) (Q : c.State → Type 0) (flow : c.Flow) → ((t : c.State) → Leaves (way t)) → EndsBy way Q flow → Leaves flow
  end-leaves way Q flow h e = subst Leaves (sym e.is) (h e.after)

  flagged-leaves : (o : Option z.Point) (d : ℕ) (g : Registers) (s : State) (flow : c.Flow) → flagged z.Point z.scope z.R z.gives o d g s flow → Leaves flow
  flagged-leaves None d g s flow h = absurd h
  flagged-leaves (Some p) d g s flow h = end-leaves c.Breaks _ flow (λ t. tt) h

  return-leaves : (flow : c.Flow) → IsReturn flow → Leaves flow
  return-leaves (c.Falls t) h = absurd h
  return-leaves (c.Breaks t) h = tt
  return-leaves (c.Continues t) h = tt
  return-leaves (c.Returns v t) h = tt
  return-leaves (c.Exits y t) h = tt

  pub ways-leave : (around : Around z.Point) (flow : Flow) (s : State) (x : c.Flow) → ways_of z around flow s x → Leaves x
  ways-leave around (Falls g) s x h = absurd h
  ways-leave around (Returns v) s x h = return-leaves x (z.returns v s x h)
  ways-leave function (Breaks g) s x h = absurd h
  ways-leave function (Continues g) s x h = absurd h
  ways-leave (turns p around) (Breaks g) s x h = end-leaves c.Breaks _ x (λ t. tt) h
  ways-leave (turns p around) (Continues g) s x h = end-leaves c.Continues _ x (λ t. tt) h
  ways-leave (stepped p around) (Breaks g) s x h = flagged-leaves (Some p) (depth_of around) g s x h
  ways-leave (stepped p around) (Continues g) s x h = end-leaves c.Breaks _ x (λ t. tt) h
  ways-leave (step p around) (Breaks g) s x h = end-leaves c.Breaks _ x (λ t. tt) h
  ways-leave (step p around) (Continues g) s x h = absurd h
  ways-leave (cases p around) (Breaks g) s x h = end-leaves c.Breaks _ x (λ t. tt) h
  ways-leave (cases p around) (Continues g) s x h = flagged-leaves (gone_on_to around) (depth_of around) g s x h
