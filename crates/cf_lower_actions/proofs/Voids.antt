-- Conversions to void, of which nothing is kept (4, 5.4).
use Rattle.std.proofs.Common.{◌≡◌, ℕ, Bool, true, false, [], refl, ap}
use Rattle.std.specs.Prelude.{Option, Some, None}
use Rattle.cf_base.specs.World.{World, Ran}
use Rattle.cf_core.specs.Types.{SourceType, void, const, is_void}
use Rattle.cf_core.specs.Scalars.{converted_value}
use Rattle.cf_core.specs.Store as source
use Rattle.cf_core.specs.Run.{State, ◌>>=◌, malformed, some_or}
use Rattle.cf_lower_layout.specs.Sorts.{sort_of}
use Rattle.cf_plain.specs.Plain as plain
use Rattle.cf_plain.specs.Plain.{Register}
use Rattle.cf_plain.specs.Acts.{Registers, acts}
use Rattle.cf_plain.specs.Running.{calls}
use Rattle.cc_whole_mean.specs.Flow as c
use Rattle.cc_whole_mean.specs.Values.{value_of}
use Rattle.cf_lower.specs.Kept.{unknown, Keeping, of_sort, local_kept}
use Rattle.cf_lower.specs.Expressions.{zero, converted}
use Rattle.cf_lower.specs.Statements.{put_in}
use Rattle.cf_lower_steps.specs.Steps.{Step}
use Rattle.cf_lower_turns.specs.Around.{Around, depth_of, inside_at}
use Rattle.cf_lower_turns.specs.Here.{Here}
use Rattle.cf_lower_turns.specs.Scene.{Scene, fixed_in, again_at}
use Rattle.cf_lower_actions.specs.Given.{Silent}

void-sort : (y : SourceType) → is_void y ≡ true → sort_of y ≡ None
void-sort void e = refl
void-sort (const t) e = void-sort t e
void-sort y e = absurd (cc)

module _ (z : Scene) (around : Around Keeping) (p : Keeping) (y : SourceType) (q : Register) (e : is_void y ≡ true) where
  module _ (n : ℕ) (g : Registers) (s : State) (t : c.State) (w : World) (h : Here (fixed_in z) z.body p (depth_of around) g s t) where
    to-void : (a : SourceType) (v : source.Value) → is_void a ≡ true → Step (fixed_in z) h.map (converted_value a v s w) s w unknown (value_of zero z.body.scope t.memory)
    to-void void source.Built i = record { by = tt }
    to-void void v i = record { by = (refl, refl, tt) }
    to-void (const a) v i = to-void a v i
    to-void a v i = absurd (cc)

    void-step : Step (fixed_in z) h.map (acts (calls (again_at z n)) z.program g (plain.convert y q) s w) s w unknown (value_of zero z.body.scope t.memory)
    void-step = by_value (g q)
      where
        by_value : (x : Option source.Value) → Step (fixed_in z) h.map ((some_or x malformed >>= converted_value y) s w) s w unknown (value_of zero z.body.scope t.memory)
        by_value None = record { by = tt }
        by_value (Some v) = to-void y v e

  pub void-silent : Silent z around p (plain.convert y q)
  void-silent = record {
    kept = unknown;
    is = ap of_sort (void-sort y e);
    local = refl;
    set_by_none = λ r. ap (λ k. put_in (inside_at z.inside around) (local_kept (of_sort k)) r (converted k (p q) q)) (void-sort y e);
    dropped = refl;
    step = void-step;
  }
