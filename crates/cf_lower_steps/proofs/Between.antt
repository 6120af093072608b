-- What stands between statements, where a store has been done and where ways join.
use Rattle.std.proofs.Common.{◌≡◌, ℕ, ◌<◌, Bool, true, false, ◌==◌, [], ◌∷◌, refl, sym, ◌∙◌, ap, subst, arith}
use Rattle.std.specs.Prelude.{Option, Some, None}
use Rattle.std.proofs.lemmas.Bool.Decides.{nat_tests}
use Rattle.cf_base.specs.Event.{Ended, Ticks, Depth, Undefined}
use Rattle.cf_base.specs.World.{World, Ran, Went, Stops, and_then, shown}
use Rattle.cf_base.specs.Agree.{Begins}
use Rattle.cf_core.specs.Store as source
use Rattle.cf_core.specs.Run.{State, Did, Gives, Exits, Malformed, onward, gives}
use Rattle.cf_lower_layout.specs.Sorts.{Sort}
use Rattle.cf_plain.specs.Plain.{Register}
use Rattle.cf_plain.specs.Acts.{Registers}
use Rattle.cf_plain.specs.Running.{Falls}
use Rattle.cc_whole.specs.Plain.{Expression, Place, assign}
use Rattle.cc_whole_memory.specs.Values.{bytes_of}
use Rattle.cc_whole_memory.specs.Cells.{load}
use Rattle.cc_whole_memory.specs.Blocks.{Memory, inside, on_ok, value_or_act}
use Rattle.cc_whole_mean.specs.Scope.{Scope}
use Rattle.cc_whole_mean.specs.Types.{scalar_of}
use Rattle.cc_whole_mean.specs.Values.{value_of, assigned, named_value}
use Rattle.cc_whole_mean.specs.Flow as c
use Rattle.cc_whole_mean.specs.Flow.{in_memory, tried}
use Rattle.cc_whole_mean.specs.Mean as mean
use Rattle.cc_whole_mean.specs.Mean.{Program}
use Rattle.cf_lower_relate.specs.Map.{Fixed, Map}
use Rattle.cf_lower_relate.specs.Relation.{Rel}
use Rattle.cf_lower_relate.proofs.Values.{grows-same}
use Rattle.cf_lower.specs.Kept.{Keeping, local_kept}
use Rattle.cf_lower.specs.Written.{register_type}
use Rattle.cf_lower.specs.Expressions.{local_value}
use Rattle.cf_lower_steps.specs.Steps.{KeptAs}
use Rattle.cf_lower_steps.specs.Own.{Own, InLocals}
use Rattle.cf_lower_steps.specs.Flows.{Between, Simulates, Ways, Ends}
use Rattle.cf_lower_steps.proofs.Locals.{locals-stored}
use Rattle.cf_lower_steps.proofs.Statements.{runs, grows-assign, runs-one, different}
use Rattle.cf_lower_steps.proofs.Stores.{Stored, Stores}

module _ (K : Fixed) (own : Own) (scope : Scope) (F : Map) where
  -- ---- the C's own blocks are left alone

  module _ (kept : Keeping) (g : Registers) (s t : State) (m m' : Memory) (b : Between K own scope F kept g s m) (rel : Rel K F t m') (locals : InLocals K own F scope t m')
      (below : (q : Register) (u : Sort) → local_kept (kept q) ≡ Some u → q < own.bound)
      (same : (u : Sort) (r : Register) → r < own.bound → m'.block (own.block u r) ≡ m.block (own.block u r)) where
    local-same : (u : Sort) (r : Register) → r < own.bound → value_of (local_value (Some u) r) scope m' ≡ value_of (local_value (Some u) r) scope m
    local-same u r lt =
        ap (λ n. named_value n m') (b.blocks.named u r lt)
        ∙ ap (λ x. on_ok (inside (own.block u r) 0 (bytes_of (scalar_of (register_type u))) x) (λ at. value_or_act (load (scalar_of (register_type u)) at.block.cells at.offset))) (same u r lt)
        ∙ sym (ap (λ n. named_value n m) (b.blocks.named u r lt))

    kept-same : (r : Register) (a : Option Sort) → local_kept (kept r) ≡ a → value_of (local_value a r) scope m' ≡ value_of (local_value a r) scope m
    kept-same r None e = refl
    kept-same r (Some u) e = local-same u r (below r u e)

    pub between-elsewhere : Between K own scope F kept g t m'
    between-elsewhere = record {
      rel = rel;
      registers = λ r v e. subst (λ z. KeptAs K F (kept r) v z) (sym (kept-same r (local_kept (kept r)) refl)) (b.registers r v e);
      blocks = record {
        named = b.blocks.named;
        lives = λ u r lt. let h = b.blocks.lives u r lt in record { block = h.block; there = same u r lt ∙ h.there; size = h.size };
        apart = b.blocks.apart;
        free = b.blocks.free;
      };
      locals = locals;
    }

  -- ---- a store as a statement

  module _ (again helps : mean.Again) (p : Program) (helper : Bool) (depth : ℕ) (kept : Keeping) (g : Registers) (s : State) (t : c.State) (w : World)
      (b : Between K own scope F kept g s t.memory) (below : (q : Register) (u : Sort) → local_kept (kept q) ≡ Some u → q < own.bound)
      (ways : Ways) (place : Place) (e : Expression) where
    stored-there : (u : State) → Stored K F s u t.memory (assigned place e scope t.memory)
        → Simulates (Ends K own scope F kept ways) (Went (Gives (Falls g) u) w) (runs again helps p helper scope depth (assign place e ∷ []) t w)
    stored-there u h = record {
      by = record {
        value = c.Falls (in_memory t h.after);
        run = runs-one again helps p helper scope depth (assign place e) t w (in_memory t h.after) (ap (λ z. tried z w (λ m. Went (c.Falls (in_memory t m)) w)) h.is);
        related = record {
          after = in_memory t h.after;
          is = refl;
          stays = record {
            map = F;
            grows = grows-same F;
            between = between-elsewhere kept g s u t.memory h.after b h.rel
                (locals-stored K own F scope s t.memory b.locals u h.after h.rel h.frame h.next h.object h.known h.live h.elsewhere) below
                (λ a r lt. h.elsewhere (own.block a r) (different (own.block a r) (F.block h.object) (λ q. b.blocks.free a r lt h.object h.known h.live (sym q))));
          };
        };
      };
    }

    pub stores-there : (ran : Ran (Did source.Value)) → Stores K F ran s w t.memory (assigned place e scope t.memory)
        → Simulates (Ends K own scope F kept ways) (and_then ran (λ did w. onward did (λ v. gives (Falls g)) w)) (runs again helps p helper scope depth (assign place e ∷ []) t w)
    stores-there (Went (Gives v u) w') h =
        subst (λ z. Simulates (Ends K own scope F kept ways) (Went (Gives (Falls g) u) z) (runs again helps p helper scope depth (assign place e ∷ []) t w)) (sym h.by.0)
        (stored-there u h.by.1)
    stores-there (Went (Exits z u) w') h = absurd h.by
    stores-there (Went Malformed w') h = record { by = tt }
    stores-there (Stops (Undefined act) trace) h =
        record {
          by = subst (λ z. Begins z (shown (runs again helps p helper scope depth (assign place e ∷ []) t w))) (sym h.by)
              (grows-assign again helps p helper scope depth place e t w).by;
        }
    stores-there (Stops (Ended status) trace) h = absurd h.by
    stores-there (Stops Ticks trace) h = absurd h.by
    stores-there (Stops Depth trace) h = absurd h.by
