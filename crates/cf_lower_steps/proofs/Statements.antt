-- Statements that set registers and store, and statements one behind the other.
use Rattle.std.proofs.Common.{◌≡◌, ℕ, ◌<◌, Bool, true, false, ◌==◌, List, [], ◌∷◌, ◌++◌, refl, sym, ◌∙◌, ap, subst}
use Rattle.std.specs.Prelude.{Some, None, Result}
use Rattle.cf_base.specs.Event.{Ended, Ticks, Depth, Undefined}
use Rattle.cf_base.specs.World.{World, Ran, Went, Stops, and_then, shown}
use Rattle.cf_base.specs.Agree.{Begins, Adds}
use Rattle.cf_base.proofs.Agreement.{adds-then}
use Rattle.cf_core.specs.Store as source
use Rattle.cf_core.specs.Run.{State, Did, Gives, Exits, Malformed, Act, onward, gives}
use Rattle.cf_lower_layout.specs.Sorts.{Sort}
use Rattle.cf_plain.specs.Plain.{Register}
use Rattle.cf_plain.specs.Acts.{Registers}
use Rattle.cf_plain.specs.Running as plain
use Rattle.cf_plain.specs.Running.{Falls, Breaks, Continues, Returns}
use Rattle.cc_whole.specs.Plain.{Expression, Statement, Place, named, assign, in_order}
use Rattle.cc_whole_memory.specs.declared.value.Value.{Value}
use Rattle.cc_whole_mean.specs.Scope.{Scope}
use Rattle.cc_whole_mean.specs.Values.{value_of, source_of, assigned}
use Rattle.cc_whole_mean.specs.Flow as c
use Rattle.cc_whole_mean.specs.Flow.{in_memory, tried, falling}
use Rattle.cc_whole_mean.specs.Mean as mean
use Rattle.cc_whole_mean.specs.Mean.{Program, does, does_all}
use Rattle.cc_whole_mean.proofs.Growth.{went, grows-tried, grows-falling}
use Rattle.cf_lower_relate.specs.Map.{Fixed, Map, Grows}
use Rattle.cf_lower_relate.proofs.Values.{grows-same, grows-through}
use Rattle.cf_lower.specs.Kept.{Kept, unknown, integer_of, holds, argument, Keeping, keep, local_kept}
use Rattle.cf_lower.specs.Written.{register_name}
use Rattle.cf_lower.specs.Statements.{set_register}
use Rattle.cf_lower_steps.specs.Steps.{HasValue, GivenAs, Step}
use Rattle.cf_lower_steps.specs.Own.{Own}
use Rattle.cf_lower_steps.specs.Flows.{Between, Stays, Leaves, Simulates, Ways, Ends}
use Rattle.cf_lower_steps.proofs.Locals.{locals-elsewhere}
use Rattle.cf_lower_steps.proofs.Registers.{assign-register, same-register}

pub different : (i j : ℕ) → (i ≡ j → ⊥) → i == j ≡ false
different i j f = by_test (i == j) refl
  where
    by_test : (b : Bool) → i == j ≡ b → i == j ≡ false
    by_test false e = e
    by_test true e = absurd (f (same-register i j e))

-- ---- the C's statements, one list behind the other

behind : (r : Ran c.Flow) (f g : c.State → World → Ran c.Flow)
    → and_then (and_then r (falling f)) (falling g) ≡ and_then r (falling (λ s w. and_then (f s w) (falling g)))
behind (Went (c.Falls s) w) f g = refl
behind (Went (c.Breaks s) w) f g = refl
behind (Went (c.Continues s) w) f g = refl
behind (Went (c.Returns v s) w) f g = refl
behind (Went (c.Exits z s) w) f g = refl
behind (Stops end trace) f g = refl

module _ (again helps : mean.Again) (p : Program) (inside : Bool) (scope : Scope) (depth : ℕ) where
  -- what a list of statements does
  abbrev pub runs : List Statement → c.State → World → Ran c.Flow
  runs ss t w = does_all again helps p inside (in_order ss) scope depth t w

  pub runs-join : (xs ys : List Statement) (t : c.State) (w : World) → runs (xs ++ ys) t w ≡ and_then (runs xs t w) (falling (λ t w. runs ys t w))
  runs-join [] ys t w = refl
  runs-join (x ∷ xs) ys t w =
      ap (λ (f : c.State → World → Ran c.Flow). and_then (does again helps p inside x scope depth t w) (falling f))
      (λ j u v. runs-join xs ys u v j)
      ∙ sym (behind (does again helps p inside x scope depth t w) (λ u v. runs xs u v) (λ u v. runs ys u v))

  -- one statement alone
  pub runs-one : (x : Statement) (t : c.State) (w : World) (u : c.State) → does again helps p inside x scope depth t w ≡ Went (c.Falls u) w → runs (x ∷ []) t w ≡ Went (c.Falls u) w
  runs-one x t w u e = ap (λ r. and_then r (falling (λ s w. Went (c.Falls s) w))) e

  pub grows-assign : (place : Place) (e : Expression) (t : c.State) (w : World) → Adds w.trace (runs (assign place e ∷ []) t w)
  grows-assign place e t w =
      adds-then w.trace (does again helps p inside (assign place e) scope depth t w) (falling (λ s w. Went (c.Falls s) w))
      (grows-tried (assigned place e scope t.memory) w (λ m. Went (c.Falls (in_memory t m)) w) (λ m. went _ w))
      (λ flow v. grows-falling (λ s w. Went (c.Falls s) w) (λ s v. went (c.Falls s) v) flow v)

  module _ (K : Fixed) (own : Own) (F : Map) where
    given-value : (x : Kept) (t : Sort) (v : source.Value) (found : Result Value ℕ) → local_kept x ≡ Some t → GivenAs K F x v found → HasValue K F x v found
    given-value unknown t v found e h = absurd (cc)
    given-value (argument i y) t v found e h = absurd (cc)
    given-value (integer_of f) t v found e h = h
    given-value (holds a) t v found e h = h

    -- ---- a register is set

    module _ (kept : Keeping) (g : Registers) (s : State) (t : c.State) (w : World) (b : Between K own scope F kept g s t.memory)
        (below : (q : Register) (u : Sort) → local_kept (kept q) ≡ Some u → q < own.bound)
        (x : Kept) (a : Sort) (r : Register) (lt : r < own.bound) (local : local_kept x ≡ Some a) (e : Expression) (no_load : source_of e scope t.memory ≡ None)
        (ways : Ways) where
      pub set-value : (v : source.Value) → GivenAs K F x v (value_of e scope t.memory)
          → Simulates (Ends K own scope F (keep kept r x) ways) (Went (Gives (Falls (plain.keep g r v)) s) w) (runs (set_register a r e ∷ []) t w)
      set-value v given =
          let h = given-value x a v (value_of e scope t.memory) local given in
          let done = assign-register K F own s t.memory b.rel scope b.blocks kept g b.registers below x a r lt v h.value local h.same e h.is no_load in
          record {
            by = record {
              value = c.Falls (in_memory t done.after);
              run = runs-one (set_register a r e) t w (in_memory t done.after) (ap (λ z. tried z w (λ m. Went (c.Falls (in_memory t m)) w)) done.is);
              related = record {
                after = in_memory t done.after;
                is = refl;
                stays = record {
                  map = F;
                  grows = grows-same F;
                  between = record {
                    rel = done.rel;
                    registers = done.registers;
                    blocks = done.own_blocks;
                    locals = locals-elsewhere K own F scope s t.memory b.locals done.after
                        (λ i li. done.elsewhere (own.local i) (different (own.local i) (own.block a r) (λ e. (b.locals.blocks i li).apart a r lt (sym e)))) done.next;
                  };
                };
              };
            };
          }

      -- `set`, of an action whose C expression is no load
      pub sets-register : (ran : Ran (Did source.Value)) → Step K F ran s w x (value_of e scope t.memory)
          → Simulates (Ends K own scope F (keep kept r x) ways) (and_then ran (λ did w. onward did (λ v. gives (Falls (plain.keep g r v))) w)) (runs (set_register a r e ∷ []) t w)
      sets-register (Went (Gives v s') w') h =
          subst (λ z. Simulates (Ends K own scope F (keep kept r x) ways) (Went (Gives (Falls (plain.keep g r v)) z) w') (runs (set_register a r e ∷ []) t w)) (sym h.by.0)
          (subst (λ z. Simulates (Ends K own scope F (keep kept r x) ways) (Went (Gives (Falls (plain.keep g r v)) s) z) (runs (set_register a r e ∷ []) t w)) (sym h.by.1)
          (set-value v h.by.2))
      sets-register (Went (Exits z s') w') h = absurd h.by
      sets-register (Went Malformed w') h = record { by = tt }
      sets-register (Stops (Undefined act) trace) h =
          record { by = subst (λ z. Begins z (shown (runs (set_register a r e ∷ []) t w))) (sym h.by) (grows-assign (named (register_name a r)) e t w).by }
      sets-register (Stops (Ended status) trace) h = absurd h.by
      sets-register (Stops Ticks trace) h = absurd h.by
      sets-register (Stops Depth trace) h = absurd h.by

-- ---- statements behind statements

passes : (go : c.State → World → Ran c.Flow) (d : c.Flow) (w : World) → Leaves d → falling go d w ≡ Went d w
passes go (c.Falls t) w h = absurd h
passes go (c.Breaks t) w h = refl
passes go (c.Continues t) w h = refl
passes go (c.Returns v t) w h = refl
passes go (c.Exits z t) w h = refl

module _ (K : Fixed) (own : Own) (scope : Scope) (kept : Keeping) (ways : Ways) where
  -- what is so for a later map is so for the earlier one
  stays-from : (F G : Map) → Grows F G → (g : Registers) (s : State) (t : c.State) → Stays K own scope G kept g s t → Stays K own scope F kept g s t
  stays-from F G g r s t h = record { map = h.map; grows = grows-through F G h.map g h.grows; between = h.between }

  ends-from : (F G : Map) → Grows F G → (flow : plain.Flow) (s : State) (d : c.Flow) → Ends K own scope G kept ways flow s d → Ends K own scope F kept ways flow s d
  ends-from F G g (Falls r) s d h = record { after = h.after; is = h.is; stays = stays-from F G g r s h.after h.stays }
  ends-from F G g (Breaks r) s d h = h
  ends-from F G g (Continues r) s d h = h
  ends-from F G g (Returns v) s d h = h

  pub simulates-from : (F G : Map) → Grows F G → (x : Ran (Did plain.Flow)) (y : Ran c.Flow)
      → Simulates (Ends K own scope G kept ways) x y → Simulates (Ends K own scope F kept ways) x y
  simulates-from F G g (Went (Gives flow s) w) y h =
      record { by = record { value = h.by.value; run = h.by.run; related = ends-from F G g flow s h.by.value h.by.related } }
  simulates-from F G g (Went (Exits z s) w) y h = record { by = h.by }
  simulates-from F G g (Went Malformed w) y h = record { by = tt }
  simulates-from F G g (Stops (Undefined act) trace) y h = record { by = h.by }
  simulates-from F G g (Stops (Ended status) trace) y h = record { by = h.by }
  simulates-from F G g (Stops Ticks trace) y h = record { by = h.by }
  simulates-from F G g (Stops Depth trace) y h = record { by = h.by }

  module _ (leaves : (flow : plain.Flow) (s : State) (d : c.Flow) → ways flow s d → Leaves d) (F : Map) (first : Keeping) (f : Registers → Act plain.Flow)
      (go : c.State → World → Ran c.Flow)
      (next : (G : Map) (g : Registers) (s : State) (t : c.State) (w : World) → Grows F G → Between K own scope G first g s t.memory
      → Simulates (Ends K own scope G kept ways) (f g s w) (go t w))
      (grows : (t : c.State) (w : World) → Adds w.trace (go t w)) where
    left : (flow : plain.Flow) (s : State) (w : World) (y : Ran c.Flow) (d : c.Flow) → y ≡ Went d w → ways flow s d → Ends K own scope F kept ways flow s d
        → Simulates (Ends K own scope F kept ways) (Went (Gives flow s) w) (and_then y (falling go))
    left flow s w y d run way ends =
        record { by = record { value = d; run = ap (λ r. and_then r (falling go)) run ∙ passes go d w (leaves flow s d way); related = ends } }

    -- where the first statements fall the next ones follow
    pub simulates-then : (x : Ran (Did plain.Flow)) (y : Ran c.Flow) → Simulates (Ends K own scope F first ways) x y
        → Simulates (Ends K own scope F kept ways) (and_then x (λ did w. onward did (plain.falling f) w)) (and_then y (falling go))
    simulates-then (Went (Gives (Falls g) s) w) y h =
        let at = h.by.related in
        subst (λ r. Simulates (Ends K own scope F kept ways) (f g s w) r)
        (sym (ap (λ r. and_then r (falling go)) (h.by.run ∙ ap (λ d. Went d w) at.is)))
        (simulates-from F at.stays.map at.stays.grows (f g s w) (go at.after w) (next at.stays.map g s at.after w at.stays.grows at.stays.between))
    simulates-then (Went (Gives (Breaks g) s) w) y h = left (Breaks g) s w y h.by.value h.by.run h.by.related h.by.related
    simulates-then (Went (Gives (Continues g) s) w) y h = left (Continues g) s w y h.by.value h.by.run h.by.related h.by.related
    simulates-then (Went (Gives (Returns v) s) w) y h = left (Returns v) s w y h.by.value h.by.run h.by.related h.by.related
    simulates-then (Went (Exits z s) w) y h = record { by = record { after = h.by.after; run = ap (λ r. and_then r (falling go)) h.by.run } }
    simulates-then (Went Malformed w) y h = record { by = tt }
    simulates-then (Stops (Undefined act) trace) y h =
        record { by = (adds-then trace y (falling go) (record { by = h.by }) (λ flow v. grows-falling go grows flow v)).by }
    simulates-then (Stops (Ended status) trace) y h = record { by = ap (λ r. and_then r (falling go)) h.by }
    simulates-then (Stops Ticks trace) y h = record { by = ap (λ r. and_then r (falling go)) h.by }
    simulates-then (Stops Depth trace) y h = record { by = ap (λ r. and_then r (falling go)) h.by }
