-- Loops without a step: each turn is a turn of the C's, and each turn spends a tick in both.
use Rattle.std.proofs.Common.{◌≡◌, ℕ, zero, suc, Bool, List, [], ◌∷◌, refl, sym, ◌∙◌, ap, subst}
use Rattle.cf_base.specs.Event.{Ended, Ticks, Depth, Undefined}
use Rattle.cf_base.specs.World.{World, Ran, Went, Stops, and_then, spend_of}
use Rattle.cf_base.specs.Agree.{Adds}
use Rattle.cf_base.proofs.Agreement.{adds-then}
use Rattle.cf_core.specs.Run.{State, Did, Gives, Exits, Malformed, Act, onward}
use Rattle.cf_core.specs.Calls.{Program}
use Rattle.cf_plain.specs.Plain.{Plains, loop, nothing, leave, continue}
use Rattle.cf_plain.specs.Acts.{Registers}
use Rattle.cf_plain.specs.Running as plain
use Rattle.cf_plain.specs.Running.{Falls, Breaks, Continues, Returns, does, all, turn}
use Rattle.cc_whole.specs.Plain as c_tree
use Rattle.cc_whole.specs.Plain.{Statement}
use Rattle.cc_whole_mean.specs.Scope.{Scope}
use Rattle.cc_whole_mean.specs.Flow as c
use Rattle.cc_whole_mean.specs.Flow.{falling, turning}
use Rattle.cc_whole_mean.specs.Mean as mean
use Rattle.cc_whole_mean.proofs.Growth.{GrowsAgain, grows-turning}
use Rattle.cf_lower_relate.specs.Map.{Fixed, Map, Grows}
use Rattle.cf_lower_relate.proofs.Values.{grows-same}
use Rattle.cf_lower.specs.Kept.{Keeping}
use Rattle.cf_lower.specs.Statements.{block}
use Rattle.cf_lower_steps.specs.Own.{Own}
use Rattle.cf_lower_steps.specs.Flows.{Between, Simulates, Ways, Ends}
use Rattle.cf_lower_steps.proofs.Branches.{block-runs, falls-on}
use Rattle.cf_lower_steps.proofs.Statements.{runs, simulates-from}
use Rattle.cf_lower_control.specs.Loops.{InLoop, IsReturn, ReturnsToo}

passes-turn : (go : c.State → World → Ran c.Flow) (d : c.Flow) (w : World) → IsReturn d → turning go d w ≡ Went d w
passes-turn go (c.Falls t) w h = absurd h
passes-turn go (c.Breaks t) w h = absurd h
passes-turn go (c.Continues t) w h = absurd h
passes-turn go (c.Returns v t) w h = refl
passes-turn go (c.Exits z t) w h = absurd h

module _ (K : Fixed) (own : Own) (scope : Scope) (kept : Keeping) (ways : Ways) (returns : ReturnsToo ways) (F : Map) (f : Registers → Act plain.Flow)
    (go : c.State → World → Ran c.Flow)
    (next : (G : Map) (g : Registers) (s : State) (t : c.State) (w : World) → Grows F G → Between K own scope G kept g s t.memory
    → Simulates (Ends K own scope G kept ways) (f g s w) (go t w))
    (grows : (t : c.State) (w : World) → Adds w.trace (go t w)) where
  -- after the body of a turn
  pub turns : (x : Ran (Did plain.Flow)) (y : Ran c.Flow) → Simulates (Ends K own scope F kept (InLoop K own scope F kept ways)) x y
      → Simulates (Ends K own scope F kept ways) (and_then x (λ did w. onward did (plain.turning f) w)) (and_then y (turning go))
  turns (Went (Gives (Falls g) s) w) y h =
      let at = h.by.related in
      subst (λ r. Simulates (Ends K own scope F kept ways) (f g s w) r)
      (sym (ap (λ r. and_then r (turning go)) (h.by.run ∙ ap (λ d. Went d w) at.is)))
      (simulates-from K own scope kept ways F at.stays.map at.stays.grows (f g s w) (go at.after w) (next at.stays.map g s at.after w at.stays.grows at.stays.between))
  turns (Went (Gives (Continues g) s) w) y h =
      let at = h.by.related in
      subst (λ r. Simulates (Ends K own scope F kept ways) (f g s w) r)
      (sym (ap (λ r. and_then r (turning go)) (h.by.run ∙ ap (λ d. Went d w) at.is)))
      (simulates-from K own scope kept ways F at.stays.map at.stays.grows (f g s w) (go at.after w) (next at.stays.map g s at.after w at.stays.grows at.stays.between))
  turns (Went (Gives (Breaks g) s) w) y h =
      let at = h.by.related in
      record {
        by = record {
          value = c.Falls at.after;
          run = ap (λ r. and_then r (turning go)) (h.by.run ∙ ap (λ d. Went d w) at.is);
          related = record { after = at.after; is = refl; stays = at.stays };
        };
      }
  turns (Went (Gives (Returns v) s) w) y h = record {
    by = record {
      value = h.by.value;
      run = ap (λ r. and_then r (turning go)) h.by.run ∙ passes-turn go h.by.value w (returns v s h.by.value h.by.related);
      related = h.by.related;
    };
  }
  turns (Went (Exits z s) w) y h = record { by = record { after = h.by.after; run = ap (λ r. and_then r (turning go)) h.by.run } }
  turns (Went Malformed w) y h = record { by = tt }
  turns (Stops (Undefined n) trace) y h = record { by = (adds-then trace y (turning go) (record { by = h.by }) (λ flow v. grows-turning go grows flow v)).by }
  turns (Stops (Ended status) trace) y h = record { by = ap (λ r. and_then r (turning go)) h.by }
  turns (Stops Ticks trace) y h = record { by = ap (λ r. and_then r (turning go)) h.by }
  turns (Stops Depth trace) y h = record { by = ap (λ r. and_then r (turning go)) h.by }

module _ (K : Fixed) (own : Own) (scope : Scope) (kept : Keeping) (ways : Ways) (returns : ReturnsToo ways) (F : Map)
    (again : plain.Again) (P : Program) (go helps : mean.Again) (p : mean.Program) (grown : GrowsAgain go) (helped : GrowsAgain helps) (helper : Bool) (depth : ℕ)
    (ss : Plains) (body : List Statement) where
  -- what runs with a tick less: the next turn
  module _ (turn_again : (G : Map) (g : Registers) (s : State) (t : c.State) (w : World) → Grows F G → Between K own scope G kept g s t.memory
      → Simulates (Ends K own scope G kept ways) (again (turn ss nothing g) s w) (go helper (c_tree.loop (block body)) scope depth t w))
      (each : (g : Registers) (s : State) (t : c.State) (w : World) → Between K own scope F kept g s t.memory
      → Simulates (Ends K own scope F kept (InLoop K own scope F kept ways)) (all again P ss g s w) (runs go helps p helper scope depth body t w))
      (g : Registers) (s : State) (t : c.State) (between : Between K own scope F kept g s t.memory) where
    after-tick : (w : World) → Simulates (Ends K own scope F kept ways)
        (and_then (all again P ss g s w) (λ did w. onward did (plain.turning (λ h. again (turn ss nothing h))) w))
        (and_then (mean.does_body go helps p helper (block body) scope depth t w) (turning (λ s w. go helper (c_tree.loop (block body)) scope depth s w)))
    after-tick w =
        subst (λ y. Simulates (Ends K own scope F kept ways)
        (and_then (all again P ss g s w) (λ did w. onward did (plain.turning (λ h. again (turn ss nothing h))) w))
        (and_then y (turning (λ s w. go helper (c_tree.loop (block body)) scope depth s w))))
        (sym (block-runs go helps p grown helped helper scope depth body t w))
        (turns K own scope kept ways returns F (λ h. again (turn ss nothing h)) (λ s w. go helper (c_tree.loop (block body)) scope depth s w) turn_again
        (λ s w. grown helper (c_tree.loop (block body)) scope depth s w) (all again P ss g s w) (runs go helps p helper scope depth body t w) (each g s t w between))

    by-ticks : (n : ℕ) (w : World) → Simulates (Ends K own scope F kept ways)
        (and_then (spend_of n w (λ w. let told : Did (Unit {0}) = Gives tt s in Went told w)) (λ did w. onward did (λ u s w.
        and_then (all again P ss g s w) (λ did w. onward did (plain.turning (λ h. again (turn ss nothing h))) w)) w))
        (spend_of n w (λ w. and_then (mean.does_body go helps p helper (block body) scope depth t w) (turning (λ s w. go helper (c_tree.loop (block body)) scope depth s w))))
    by-ticks zero w = record { by = refl }
    by-ticks (suc n) w = after-tick (record w { ticks = n })

    pub loop-runs : (w : World) → Simulates (Ends K own scope F kept ways) (does again P (loop ss nothing) g s w)
        (runs go helps p helper scope depth (c_tree.loop (block body) ∷ []) t w)
    loop-runs w =
        subst (λ y. Simulates (Ends K own scope F kept ways) (does again P (loop ss nothing) g s w) y)
        (sym (falls-on (mean.does go helps p helper (c_tree.loop (block body)) scope depth t w)))
        (by-ticks w.ticks w)
