-- The C's helper of constants is called, and its stores are done in it.
use Rattle.std.proofs.Common.{◌≡◌, ℕ, true, false, [], ◌∷◌, Ok, refl, ap, sym, subst, ◌∙◌}
use Rattle.std.specs.Prelude.{None, if◌then◌else◌}
use Rattle.cf_base.specs.Event.{Ended, Ticks, Depth, Undefined}
use Rattle.cf_base.specs.World.{World, Ran, Went, Stops, and_then, shown}
use Rattle.cf_base.specs.Agree.{Begins}
use Rattle.cf_core.specs.Types.{Name}
use Rattle.cf_core.specs.Run.{State, Did, Gives, Exits, Malformed}
use Rattle.cc_whole.specs.Known.{is_helper, is_main}
use Rattle.cc_whole.specs.Plain.{Function, Statements, body, in_order, call, by_name}
use Rattle.cc_whole_memory.specs.Blocks.{Memory}
use Rattle.cc_whole_mean.specs.Callee.{own, callee_named}
use Rattle.cc_whole_mean.specs.Flow as c
use Rattle.cc_whole_mean.specs.Flow.{in_memory, tried, falling, ending, called_back}
use Rattle.cc_whole_mean.specs.Library.{wrong}
use Rattle.cc_whole_mean.specs.Mean as mean
use Rattle.cc_whole_mean.specs.Mean.{run_function, enter_helper, enter_function, called, go_back, refused, helps_in}
use Rattle.cc_whole_mean.specs.Scope.{Scope}
use Rattle.cf_lower_relate.specs.Map.{Fixed, Map}
use Rattle.cf_lower_steps.specs.Flows.{Simulates}
use Rattle.cf_lower_turns.specs.Texts.{Texts}
use Rattle.cf_lower_settings.specs.Set.{SetAs}

-- ---- what stands around its statements

abbrev pub around : ℕ → Ran c.Flow → Ran c.Flow
around k y =
    and_then
    (and_then (and_then (and_then y (λ flow w. Went (ending 0 k flow) w)) (λ flow w. Went (called_back (ending 0 k flow)) w)) (λ r w. go_back None r w))
    (falling (λ s w. Went (c.Falls s) w))

shown-around : (k : ℕ) (y : Ran c.Flow) → shown (around k y) ≡ shown y
shown-around k (Went (c.Falls s) w) = refl
shown-around k (Went (c.Breaks s) w) = refl
shown-around k (Went (c.Continues s) w) = refl
shown-around k (Went (c.Returns v s) w) = refl
shown-around k (Went (c.Exits z s) w) = refl
shown-around k (Stops end trace) = refl

abbrev behind_it : c.State → c.State
behind_it s = in_memory (in_memory s s.memory) s.memory

pub sim-around : {A : Type 0} (K : Fixed) (texts : Texts) (F : Map) (s : State) (m : Memory) (k : ℕ) (x : Ran (Did A)) (y : Ran c.Flow)
    → Simulates (λ a t flow. SetAs K texts F s m t flow) x y → Simulates (λ a t flow. SetAs K texts F s m t flow) x (around k y)
sim-around K texts F s m k (Went (Gives a t) w) y h = record {
  by = record {
    value = c.Falls (behind_it h.by.related.after);
    run = ap (around k) (h.by.run ∙ ap (λ f. Went f w) h.by.related.is);
    related = record { after = behind_it h.by.related.after; is = refl; map = h.by.related.map; later = h.by.related.later };
  };
}
sim-around K texts F s m k (Went (Exits z t) w) y h = record { by = record { after = behind_it h.by.after; run = ap (around k) h.by.run } }
sim-around K texts F s m k (Went Malformed w) y h = record { by = tt }
sim-around K texts F s m k (Stops (Undefined act) trace) y h = record { by = subst (λ l. Begins trace l) (sym (shown-around k y)) h.by }
sim-around K texts F s m k (Stops (Ended z) trace) y h = record { by = ap (around k) h.by }
sim-around K texts F s m k (Stops Ticks trace) y h = record { by = ap (around k) h.by }
sim-around K texts F s m k (Stops Depth trace) y h = record { by = ap (around k) h.by }

-- ---- the call

abbrev pub helper : Name → Statements → Function
helper n ss = record { is_shared = false; prototype = record { is_static = false; result = None; name = n; parameters = [] }; body = body [] ss }

module _ (p : mean.Program) (again : mean.Again) (n : Name) (ss : Statements) (no_main : is_main n ≡ false) (is_one : is_helper n ≡ true)
    (found : callee_named p.functions n ≡ Ok (own (helper n ss))) (scope : Scope) (depth : ℕ) (u : c.State) (w : World) where
  abbrev helps : mean.Again
  helps = helps_in again p false

  pub helper-called : mean.does_all again helps p false (in_order (call None (by_name n) [] ∷ [])) scope depth u w
      ≡ around u.memory.next (mean.does_all again refused p true ss p.names depth (behind_it u) w)
  helper-called =
      ap (λ x. and_then (tried x w (λ c. and_then (called again helps p false c [] depth u w) (λ r w. go_back None r w))) (falling (λ s w. Went (c.Falls s) w))) found
      ∙ ap (λ b. and_then (and_then (if b then wrong w else (if is_helper n then enter_helper false helps p.names (helper n ss) [] depth u w
      else enter_function again p.names (helper n ss) [] depth u w)) (λ r w. go_back None r w)) (falling (λ s w. Went (c.Falls s) w))) no_main
      ∙ ap (λ b. and_then (and_then (if b then enter_helper false helps p.names (helper n ss) [] depth u w else enter_function again p.names (helper n ss) [] depth u w)
      (λ r w. go_back None r w)) (falling (λ s w. Went (c.Falls s) w))) is_one
