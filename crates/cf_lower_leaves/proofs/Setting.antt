-- From what an action gives to the statement that keeps it: a register is set in both, and a store is done in both.
use Rattle.std.proofs.Common.{◌≡◌, ℕ, ◌<◌, ◌≤◌, Bool, true, false, ◌==◌, [], ◌∷◌, refl, sym, ◌∙◌, ap, subst, arith}
use Rattle.std.specs.Prelude.{Some, None, Result, Ok, length}
use Rattle.cf_base.specs.Event.{Ended, Ticks, Depth, Undefined}
use Rattle.cf_base.specs.World.{World, Ran, Went, Stops, and_then, shown}
use Rattle.cf_base.specs.Agree.{Begins}
use Rattle.cf_core.specs.Store as source
use Rattle.cf_core.specs.Run.{State, Did, Gives, Exits, Malformed, onward, gives}
use Rattle.cf_lower_layout.specs.Sorts.{Sort}
use Rattle.cf_plain.specs.Plain.{Register, Action, act, set}
use Rattle.cf_plain.specs.Acts.{Registers, acts}
use Rattle.cf_plain.specs.Running.{Flow, Falls, calls, does, keep as keep_value}
use Rattle.cc_whole.specs.Plain.{Expression, Place, named, assign}
use Rattle.cc_whole_memory.specs.declared.value.Value.{Value}
use Rattle.cc_whole_memory.specs.Blocks.{Memory}
use Rattle.cc_whole_mean.specs.Values.{value_of, source_of, assigned}
use Rattle.cc_whole_mean.specs.Flow as c
use Rattle.cc_whole_mean.specs.Flow.{in_memory, tried}
use Rattle.cc_whole_mean.specs.Mean as mean
use Rattle.cf_lower.specs.Kept.{Kept, unknown, integer_of, holds, argument, Keeping, keep, local_kept}
use Rattle.cf_lower.specs.Written.{register_name}
use Rattle.cf_lower.specs.Statements.{set_register}
use Rattle.cf_lower_relate.specs.Map.{Fixed, Map}
use Rattle.cf_lower_steps.specs.Steps.{HasValue, GivenAs, Step}
use Rattle.cf_lower_steps.specs.Flows.{Between, Simulates}
use Rattle.cf_lower_steps.specs.Lowering.{runs}
use Rattle.cf_lower_steps.proofs.Locals.{locals-elsewhere}
use Rattle.cf_lower_steps.proofs.Registers.{assign-register}
use Rattle.cf_lower_steps.proofs.Statements.{different, grows-assign, runs-one}
use Rattle.cf_lower_steps.proofs.Stores.{Stored, Stores}
use Rattle.cf_lower_turns.specs.Around.{Around, depth_of, inside_at}
use Rattle.cf_lower_turns.specs.Here.{Body, Here}
use Rattle.cf_lower_turns.specs.Texts.{Free}
use Rattle.cf_lower_turns.specs.Ways.{EndsBy, ends}
use Rattle.cf_lower_turns.specs.Scene.{GivesBack, Scene, fixed_in, c_again_at, helps_at, list_at}
use Rattle.cf_lower_turns.proofs.Following.{sim-here}
use Rattle.cf_lower_leaves.proofs.Remains.{assigned-keeps}
use Rattle.cf_lower_leaves.proofs.Storing.{LiteralsKept}
use Rattle.cf_lower_leaves.proofs.After.{here-after, here-stored, below-keep}

given-value : (K : Fixed) (F : Map) (x : Kept) (t : Sort) (v : source.Value) (found : Result Value ℕ) → local_kept x ≡ Some t → GivenAs K F x v found → HasValue K F x v found
given-value K F unknown t v found e h = absurd (cc)
given-value K F (argument i y) t v found e h = absurd (cc)
given-value K F (integer_of f) t v found e h = h
given-value K F (holds a) t v found e h = h

-- a register's C local has been assigned a value
pub record IsSet (K : Fixed) (at : Body) (p : Keeping) (d : ℕ) (g : Registers) (s : State) (t : c.State) (u : Sort) (r : Register) (e : Expression) : Type 0 where
  pub after : Memory
  pub is : assigned (named (register_name u r)) e at.scope t.memory ≡ Ok after
  pub here : Here K at p d g s (in_memory t after)

module _ (K : Fixed) (at : Body) (p : Keeping) (d : ℕ) (g : Registers) (s : State) (t : c.State) (h : Here K at p d g s t) (y : Kept) (u : Sort) (r : Register)
    (lt : r < at.own.bound) (local : local_kept y ≡ Some u) (e : Expression) (no_load : source_of e at.scope t.memory ≡ None) (v : source.Value)
    (given : GivenAs K h.map y v (value_of e at.scope t.memory)) where
  pub register-set : IsSet K at (keep p r y) d (keep_value g r v) s t u r e
  register-set =
      let found = given-value K h.map y u v (value_of e at.scope t.memory) local given in
      let done = assign-register K h.map at.own s t.memory h.between.rel at.scope h.between.blocks p g h.between.registers h.below y u r lt v found.value local
      found.same e found.is no_load in
      record {
        after = done.after;
        is = done.is;
        here = here-after K at p (keep p r y) d g (keep_value g r v) s s t done.after h
            (record {
              rel = done.rel;
              registers = done.registers;
              blocks = done.own_blocks;
              locals = locals-elsewhere K at.own h.map at.scope s t.memory h.between.locals done.after
                  (λ i li. done.elsewhere (at.own.local i) (different (at.own.local i) (at.own.block u r) (λ o. (h.between.locals.blocks i li).apart u r lt (sym o)))) done.next;
            })
            (below-keep at.own p r y h.below lt)
            (assigned-keeps t.memory done.after at.scope (named (register_name u r)) e done.is) refl refl
            (λ f lf. done.elsewhere (at.flags.block f) (different (at.flags.block f) (at.own.block u r) (λ o. h.flags_there.registers f u r lf lt (sym o))))
            (λ b lb free. done.elsewhere b (different b (at.own.block u r) (λ o. let later = h.later.registers u r lt in omega (arith, lb, later, o))));
      }

module _ (z : Scene) (n : ℕ) (around : Around Keeping) (p q : Keeping) (g : Registers) (s : State) (t : c.State) (w : World)
    (h : Here (fixed_in z) z.body p (depth_of around) g s t) where
  abbrev S : Flow → State → c.Flow → Type 0
  S = ends Keeping z.body.scope (Here (fixed_in z) z.body) (GivesBack (fixed_in z) z.body z.result) around q

  -- ---- a register is set

  module _ (y : Kept) (u : Sort) (r : Register) (lt : r < z.body.own.bound) (local : local_kept y ≡ Some u) (e : Expression)
      (no_load : source_of e z.body.scope t.memory ≡ None) (comes : q ≡ keep p r y) where
    set-value : (v : source.Value) → GivenAs (fixed_in z) h.map y v (value_of e z.body.scope t.memory)
        → Simulates S (Went (Gives (Falls (keep_value g r v)) s) w) (list_at z n (set_register u r e ∷ []) t w)
    set-value v given =
        let done = register-set (fixed_in z) z.body p (depth_of around) g s t h y u r lt local e no_load v given in
        let after : c.State = in_memory t done.after in
        sim-here S (Falls (keep_value g r v)) s w (list_at z n (set_register u r e ∷ []) t w) (c.Falls after)
        (runs-one (c_again_at z n) (helps_at z n) z.c_program z.helper z.body.scope z.depth (set_register u r e) t w after (ap (λ x. tried x w (λ m. Went (c.Falls (in_memory t m)) w)) done.is))
        (record {
          after = after;
          is = refl;
          related =
              subst (λ k. Here (fixed_in z) z.body k (depth_of around) (keep_value g r v) s after) (sym comes)
              done.here;
        })

    -- by an action whose C expression is no load, and that changes nothing
    pub set-step : (ran : Ran (Did source.Value)) → Step (fixed_in z) h.map ran s w y (value_of e z.body.scope t.memory)
        → Simulates S (and_then ran (λ did w. onward did (λ v. gives (Falls (keep_value g r v))) w)) (list_at z n (set_register u r e ∷ []) t w)
    set-step (Went (Gives v s') w') step =
        subst (λ x. Simulates S (Went (Gives (Falls (keep_value g r v)) x) w') (list_at z n (set_register u r e ∷ []) t w)) (sym step.by.0)
        (subst (λ x. Simulates S (Went (Gives (Falls (keep_value g r v)) s) x) (list_at z n (set_register u r e ∷ []) t w)) (sym step.by.1) (set-value v step.by.2))
    set-step (Went (Exits x s') w') step = absurd step.by
    set-step (Went Malformed w') step = record { by = tt }
    set-step (Stops (Undefined x) trace) step =
        record { by = subst (λ x. Begins x (shown (list_at z n (set_register u r e ∷ []) t w))) (sym step.by) (grows-assign (c_again_at z n) (helps_at z n) z.c_program z.helper z.body.scope z.depth (named (register_name u r)) e t w).by }
    set-step (Stops (Ended status) trace) step = absurd step.by
    set-step (Stops Ticks trace) step = absurd step.by
    set-step (Stops Depth trace) step = absurd step.by

  -- ---- a store

  module _ (place : Place) (e : Expression) (comes : q ≡ p) where
    stored-value : (u : State) → u.literals ≡ s.literals → Stored (fixed_in z) h.map s u t.memory (assigned place e z.body.scope t.memory)
        → Simulates S (Went (Gives (Falls g) u) w) (list_at z n (assign place e ∷ []) t w)
    stored-value u literals done =
        let after : c.State = in_memory t done.after in
        sim-here S (Falls g) u w (list_at z n (assign place e ∷ []) t w) (c.Falls after)
        (runs-one (c_again_at z n) (helps_at z n) z.c_program z.helper z.body.scope z.depth (assign place e) t w after (ap (λ x. tried x w (λ m. Went (c.Falls (in_memory t m)) w)) done.is))
        (record {
          after = after;
          is = refl;
          related =
              subst (λ k. Here (fixed_in z) z.body k (depth_of around) g u after) (sym comes)
              (here-stored (fixed_in z) z.body p (depth_of around) g s u t done.after h done.rel done.frame literals (assigned-keeps t.memory done.after z.body.scope place e done.is)
              done.object done.known done.live done.elsewhere);
        })

    pub store-step : (ran : Ran (Did source.Value)) → LiteralsKept s ran → Stores (fixed_in z) h.map ran s w t.memory (assigned place e z.body.scope t.memory)
        → Simulates S (and_then ran (λ did w. onward did (λ v. gives (Falls g)) w)) (list_at z n (assign place e ∷ []) t w)
    store-step (Went (Gives v u) w') literals step =
        subst (λ x. Simulates S (Went (Gives (Falls g) u) x) (list_at z n (assign place e ∷ []) t w)) (sym step.by.0) (stored-value u (literals v u w' refl) step.by.1)
    store-step (Went (Exits x u) w') literals step = absurd step.by
    store-step (Went Malformed w') literals step = record { by = tt }
    store-step (Stops (Undefined x) trace) literals step =
        record { by = subst (λ x. Begins x (shown (list_at z n (assign place e ∷ []) t w))) (sym step.by) (grows-assign (c_again_at z n) (helps_at z n) z.c_program z.helper z.body.scope z.depth place e t w).by }
    store-step (Stops (Ended status) trace) literals step = absurd step.by
    store-step (Stops Ticks trace) literals step = absurd step.by
    store-step (Stops Depth trace) literals step = absurd step.by
