-- From what an action gives to the statement that keeps it, or drops it.
use Rattle.std.proofs.Common.{◌≡◌, ℕ, ◌<◌, Bool, true, false, ◌==◌, if◌then◌else◌, [], append-nil, refl, sym, ◌∙◌, ap, subst}
use Rattle.std.specs.Prelude.{Option, Some, None, Result}
use Rattle.cf_base.specs.Event.{Ended, Ticks, Depth, Undefined}
use Rattle.cf_base.specs.World.{World, Ran, Went, Stops, and_then, shown}
use Rattle.cf_base.specs.Agree.{Begins}
use Rattle.cf_core.specs.Store as source
use Rattle.cf_core.specs.Run.{State, Did, Gives, Exits, Malformed, onward, gives}
use Rattle.cf_lower_layout.specs.Sorts.{Sort}
use Rattle.cf_plain.specs.Plain.{Register, Action, act, set}
use Rattle.cf_plain.specs.Acts.{Registers, acts}
use Rattle.cf_plain.specs.Running.{Flow, Falls, calls, does, keep as keep_value}
use Rattle.cc_whole_memory.specs.declared.value.Value.{Value}
use Rattle.cc_whole_mean.specs.Flow as c
use Rattle.cc_whole_mean.specs.Values.{value_of}
use Rattle.cf_lower_relate.specs.Map.{Fixed, Map, Grows, is_ended, is_hidden}
use Rattle.cf_lower_relate.proofs.Values.{grows-same, grows-through}
use Rattle.cf_lower.specs.Kept.{Kept, unknown, integer_of, holds, argument, Keeping, keep, local_kept, after}
use Rattle.cf_lower.specs.Expressions.{local_value, value}
use Rattle.cf_lower.specs.Statements.{lowered, put_in}
use Rattle.cf_lower_steps.specs.Steps.{KeptAs, InRegisters, Step}
use Rattle.cf_lower_steps.specs.Flows.{Between, Simulates}
use Rattle.cf_lower_steps.specs.Lowering.{Below}
use Rattle.cf_lower_steps.specs.Own.{Own}
use Rattle.cf_lower_steps.proofs.Registers.{kept-other}
use Rattle.cf_lower_turns.specs.Around.{Around, depth_of, inside_at}
use Rattle.cf_lower_turns.specs.Here.{Body, Still, Homes, HiddenArguments, Here}
use Rattle.cf_lower_turns.specs.Texts.{NoText, Free, InTexts}
use Rattle.cf_lower_turns.proofs.Literals.{texts-stay}
use Rattle.cf_lower_turns.specs.Ways.{ends}
use Rattle.cf_lower_turns.specs.Scene.{GivesBack, Scene, fixed_in, again_at, list_at, LeafRuns}
use Rattle.cf_lower_turns.proofs.Following.{sim-here}
use Rattle.cf_lower_leaves.specs.Leaves.{SetBy}
use Rattle.cf_lower_leaves.proofs.Leaves.{set-leaf}
use Rattle.cf_lower_actions.specs.Given.{Given, Silent}

-- ---- a later map, over the same memory

module _ (K : Fixed) (at : Body) (p q : Keeping) (d : ℕ) (g r : Registers) (s u : State) (t : c.State) (h : Here K at p d g s t) (G : Map) (grows : Grows h.map G)
    (between : Between K at.own at.scope G q r u t.memory) (below : Below at.own q)
    (flags : (e o : ℕ) → e < at.flags.bound → o < G.count → is_ended (G.stage o) ≡ false → G.block o ≡ at.flags.block e → ⊥) where
  abbrev pub here-moved : ((b : ℕ) → b < at.first.next → NoText at.texts b → Free h.map b → Free G b) → InTexts K at.texts G u t.memory
      → ((o : ℕ) → o < at.start.count → is_hidden (at.start.stage o) ≡ true → Still at.start h.map o → Still at.start G o) → Homes at G → HiddenArguments at.own G u → Here K at q d r u t
  here-moved free texts still homes arguments = record {
    map = G;
    grows = grows-through at.start h.map G h.grows grows;
    between = between;
    below = below;
    flags_there = record {
      named = h.flags_there.named;
      lives = h.flags_there.lives;
      apart = h.flags_there.apart;
      registers = h.flags_there.registers;
      locals = h.flags_there.locals;
      free = flags;
    };
    bounded = h.bounded;
    unset = h.unset;
    outer = record {
      next = h.outer.next;
      remains = h.outer.remains;
      same = h.outer.same;
      free = λ b lb no f. free b lb no (h.outer.free b lb no f);
      hidden = λ o lo hid. still o lo hid (h.outer.hidden o lo hid);
      before = h.outer.before;
    };
    placed = h.placed;
    homes = homes;
    arguments = arguments;
    texts_laid = h.texts_laid;
    texts = texts;
    later = h.later;
  }

  -- where no object comes to stand in a block of before
  abbrev pub here-grown : ((b : ℕ) → b < at.first.next → Free h.map b → Free G b) → u.literals ≡ s.literals
      → ((o : ℕ) → o < at.start.count → is_hidden (at.start.stage o) ≡ true → Still at.start h.map o → Still at.start G o) → Homes at G → HiddenArguments at.own G u → Here K at q d r u t
  here-grown free literals still homes arguments =
      here-moved (λ b lb no f. free b lb f)
      (texts-stay K at.texts at.first.next h.map G grows s u literals t.memory t.memory h.texts_laid free (λ b lb f. refl) h.texts) still homes arguments

-- ---- nothing is kept

nothing-kept : (K : Fixed) (F : Map) (y : Kept) → local_kept y ≡ None → (v : source.Value) (found : Result Value ℕ) → KeptAs K F y v found
nothing-kept K F unknown e v found = tt
nothing-kept K F (argument i t) e v found = tt
nothing-kept K F (integer_of f) e v found = absurd (cc)
nothing-kept K F (holds u) e v found = absurd (cc)

module _ (K : Fixed) (at : Body) (p : Keeping) (d : ℕ) (g : Registers) (s : State) (t : c.State) (h : Here K at p d g s t) (y : Kept) (none : local_kept y ≡ None)
    (r : Register) where
  registers-with : (v : source.Value) → InRegisters K h.map (keep p r y) (keep_value g r v) at.scope t.memory
  registers-with v q x is = by_test (q == r) refl
    where
      by_test : (b : Bool) → q == r ≡ b
          → KeptAs K h.map (if b then y else p q) x (value_of (local_value (local_kept (if b then y else p q)) q) at.scope t.memory)
      by_test true e = nothing-kept K h.map y none x _
      by_test false e = h.between.registers q x (sym (kept-other g r q v e) ∙ is)

  below-with : Below at.own (keep p r y)
  below-with q u e = by_test (q == r) e
    where
      none-some : None ≡ Some u → ⊥
      none-some k = absurd (cc)

      by_test : (b : Bool) → local_kept (if b then y else p q) ≡ Some u → q < at.own.bound
      by_test true k = absurd (none-some (sym none ∙ k))
      by_test false k = h.below q u k

  -- a register of which nothing is kept is set
  pub here-silent : (v : source.Value) → Here K at (keep p r y) d (keep_value g r v) s t
  here-silent v = here-grown K at p (keep p r y) d g (keep_value g r v) s s t h h.map (grows-same h.map)
      (record { rel = h.between.rel; registers = registers-with v; blocks = h.between.blocks; locals = h.between.locals })
      below-with (λ e o le lo live k. h.flags_there.free e o le lo live k) (λ b lb f. f) refl (λ o lo hid x. x) h.homes h.arguments

-- ---- statements

module _ (z : Scene) (around : Around Keeping) (p : Keeping) where
  -- the C does nothing
  module _ (n : ℕ) (q : Keeping) (g : Registers) (s : State) (t : c.State) (w : World) (h : Here (fixed_in z) z.body p (depth_of around) g s t)
      (k : source.Value → Registers) (next : (v : source.Value) → Here (fixed_in z) z.body q (depth_of around) (k v) s t) where
    abbrev S : Flow → State → c.Flow → Type 0
    S = ends Keeping z.body.scope (Here (fixed_in z) z.body) (GivesBack (fixed_in z) z.body z.result) around q

    pub silent-step : (x : Kept) (found : Result Value ℕ) (ran : Ran (Did source.Value)) → Step (fixed_in z) h.map ran s w x found
        → Simulates S (and_then ran (λ did w. onward did (λ v. gives (Falls (k v))) w)) (list_at z n [] t w)
    silent-step x found (Went (Gives v u) w') step =
        subst (λ y. Simulates S (Went (Gives (Falls (k v)) y) w') (list_at z n [] t w)) (sym step.by.0)
        (subst (λ y. Simulates S (Went (Gives (Falls (k v)) s) y) (list_at z n [] t w)) (sym step.by.1)
        (sim-here S (Falls (k v)) s w (list_at z n [] t w) (c.Falls t) refl (record { after = t; is = refl; related = next v })))
    silent-step x found (Went (Exits y u) w') step = absurd step.by
    silent-step x found (Went Malformed w') step = record { by = tt }
    silent-step x found (Stops (Undefined y) trace) step =
        record { by = subst (λ a. Begins a w.trace) (sym step.by) (record { rest = []; parts = sym (append-nil w.trace) }) }
    silent-step x found (Stops (Ended status) trace) step = absurd step.by
    silent-step x found (Stops Ticks trace) step = absurd step.by
    silent-step x found (Stops Depth trace) step = absurd step.by

  pub given-set : (r : Register) (a : Action) → r < z.body.own.bound → Given z around p a → LeafRuns z around p (set r a)
  given-set r a lt x = set-leaf z around p r a lt
      (record {
        kept = x.kept;
        is = x.is;
        sort = x.sort;
        local = x.local;
        expression = x.expression;
        no_load = x.no_load;
        written = x.assigned r
            ∙ ap (λ k. put_in (inside_at z.inside around) (local_kept k) r (value z.inside.classes z.inside.function z.inside.locals p a)) x.is
            ∙ ap (λ l. put_in (inside_at z.inside around) l r (value z.inside.classes z.inside.function z.inside.locals p a)) x.local
            ∙ ap (λ e. put_in (inside_at z.inside around) (Some x.sort) r e) x.expressed;
        step = x.step;
      })

  pub given-dropped : (a : Action) → Given z around p a → LeafRuns z around p (act a)
  given-dropped a x n g s t w h =
      subst (λ ss. Simulates (ends Keeping z.body.scope (Here (fixed_in z) z.body) (GivesBack (fixed_in z) z.body z.result) around p)
      (does (again_at z n) z.program (act a) g s w) (list_at z n ss t w)) (sym x.dropped)
      (silent-step n p g s t w h (λ v. g) (λ v. h) x.kept _ _ (x.step n g s t w h))

  pub silent-set : (r : Register) (a : Action) → Silent z around p a → LeafRuns z around p (set r a)
  silent-set r a x n g s t w h =
      subst (λ ss. Simulates (ends Keeping z.body.scope (Here (fixed_in z) z.body) (GivesBack (fixed_in z) z.body z.result) around (after z.inside.locals (set r a) p))
      (does (again_at z n) z.program (set r a) g s w) (list_at z n ss t w)) (sym (x.set_by_none r))
      (silent-step n (after z.inside.locals (set r a) p) g s t w h (λ v. keep_value g r v)
      (λ v. subst (λ y. Here (fixed_in z) z.body (keep p r y) (depth_of around) (keep_value g r v) s t) (sym x.is)
      (here-silent (fixed_in z) z.body p (depth_of around) g s t h x.kept x.local r v)) unknown _ _ (x.step n g s t w h))

  pub silent-dropped : (a : Action) → Silent z around p a → LeafRuns z around p (act a)
  silent-dropped a x n g s t w h =
      subst (λ ss. Simulates (ends Keeping z.body.scope (Here (fixed_in z) z.body) (GivesBack (fixed_in z) z.body z.result) around p)
      (does (again_at z n) z.program (act a) g s w) (list_at z n ss t w)) (sym x.dropped)
      (silent-step n p g s t w h (λ v. g) (λ v. h) unknown _ _ (x.step n g s t w h))
