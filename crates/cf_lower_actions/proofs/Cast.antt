-- Pointers as they are, or as others, and integers as null pointers.
use Rattle.std.proofs.Common.{◌≡◌, ℕ, Bool, true, false, refl, sym, ◌∙◌, ap, ◌⊎◌}
use Rattle.std.specs.Prelude.{Some, Result, Ok}
use Rattle.cf_base.specs.declared.kind.Kind.{Kind}
use Rattle.cf_base.specs.World.{World}
use Rattle.cf_core.specs.Types.{SourceType, void, element, without_const}
use Rattle.cf_core.specs.Scalars.{decayed}
use Rattle.cf_core.specs.Store as source
use Rattle.cf_core.specs.Run.{State}
use Rattle.cf_lower_layout.specs.Sorts.{Sort, number, address, code, sort_of}
use Rattle.cf_plain.specs.Plain as plain
use Rattle.cf_plain.specs.Plain.{Register}
use Rattle.cf_plain.specs.Acts.{Registers, acts}
use Rattle.cf_plain.specs.Running.{calls}
use Rattle.cc_whole_memory.specs.declared.value.Scalar.TheVariants as scalar
use Rattle.cc_whole_memory.specs.declared.value.Value.{Value}
use Rattle.cc_whole_memory.specs.Blocks.{on_ok}
use Rattle.cc_whole_mean.specs.Flow as c_flow
use Rattle.cc_whole_mean.specs.Values.{value_of, fitted}
use Rattle.cf_lower.specs.Kept.{integer_of, holds, Keeping, of_sort, decayed_kept, local_kept}
use Rattle.cf_lower.specs.Expressions.{address_in, in_register, as_value, same_value, converted}
use Rattle.cf_lower.specs.Expressions as c
use Rattle.cf_lower_steps.specs.Steps.{HasValue, Step}
use Rattle.cf_lower_turns.specs.Around.{Around, depth_of}
use Rattle.cf_lower_turns.specs.Here.{Here}
use Rattle.cf_lower_turns.specs.Scene.{Scene, fixed_in, again_at}
use Rattle.cf_lower_pointers.proofs.Casting as casting
use Rattle.cf_lower_pointers.proofs.Operands.{one-step}
use Rattle.cf_lower_actions.specs.Given.{Given}

module _ (z : Scene) (around : Around Keeping) (p : Keeping) (q : Register) where
  pub dereference-given : (u : Sort) → p q ≡ holds u → Given z around p (plain.dereference q)
  dereference-given u kq = record {
    kept = holds u;
    is = kq;
    sort = u;
    local = refl;
    expression = as_value u (in_register u q);
    no_load = λ m. refl;
    expressed = ap (λ k. same_value k q) kq;
    assigned = λ r. refl;
    dropped = refl;
    step = λ n g s t w h.
        casting.dereference-step z.program z.function z.signature h.map (calls (again_at z n)) s t.memory h.between.rel w z.body.scope p g h.between.registers q u kq;
  }

  pub decay-given : (y : SourceType) → p q ≡ holds (address y) → Given z around p (plain.decay q)
  decay-given y kq = record {
    kept = holds (address (element y));
    is = ap decayed_kept kq;
    sort = address (element y);
    local = refl;
    expression = as_value (address y) (in_register (address y) q);
    no_load = λ m. refl;
    expressed = ap (λ k. same_value k q) kq;
    assigned = λ r. refl;
    dropped = refl;
    step = λ n g s t w h.
        casting.decay-step z.program z.function z.signature h.map (calls (again_at z n)) s t.memory h.between.rel w z.body.scope p g h.between.registers q y kq;
  }

  pub from_void-given : (y u : SourceType) → p q ≡ holds (address y) → Given z around p (plain.from_void u q)
  from_void-given y u kq = record {
    kept = holds (address (without_const u));
    is = refl;
    sort = address (without_const u);
    local = refl;
    expression = as_value (address u) (address_in q);
    no_load = λ m. refl;
    expressed = refl;
    assigned = λ r. refl;
    dropped = refl;
    step = λ n g s t w h.
        casting.from_void-step z.program z.function z.signature h.map (calls (again_at z n)) s t.memory h.between.rel w z.body.scope p g h.between.registers q y u kq;
  }

  pub cast-given : (y a u : SourceType) → p q ≡ holds (address y) → sort_of a ≡ Some (address u) → (u ≡ void) ⊎ (y ≡ u) → Given z around p (plain.convert a q)
  cast-given y a u kq e fit = record {
    kept = holds (address u);
    is = ap of_sort e;
    sort = address u;
    local = refl;
    expression = as_value (address u) (in_register (address u) q);
    no_load = λ m. refl;
    expressed = ap (λ k. converted k (p q) q) e ∙ ap (λ k. converted (Some (address u)) k q) kq;
    assigned = λ r. refl;
    dropped = refl;
    step = λ n g s t w h.
        casting.cast-step z.program z.function z.signature h.map (calls (again_at z n)) s t.memory h.between.rel w z.body.scope p g h.between.registers a y u e fit q kq;
  }

  pub code-given : (a u : SourceType) → p q ≡ holds (code u) → sort_of a ≡ Some (code u) → Given z around p (plain.convert a q)
  code-given a u kq e = record {
    kept = holds (code u);
    is = ap of_sort e;
    sort = code u;
    local = refl;
    expression = as_value (code u) (in_register (code u) q);
    no_load = λ m. refl;
    expressed = ap (λ k. converted k (p q) q) e ∙ ap (λ k. converted (Some (code u)) k q) kq;
    assigned = λ r. refl;
    dropped = refl;
    step = λ n g s t w h.
        casting.code-step z.program z.function z.signature h.map (calls (again_at z n)) s t.memory h.between.rel w z.body.scope p g h.between.registers a u e q kq;
  }

  pub null-given : (f : Kind → Bool) (a u : SourceType) → p q ≡ integer_of f → sort_of a ≡ Some (address u) → Given z around p (plain.convert a q)
  null-given f a u kq e = record {
    kept = holds (address u);
    is = ap of_sort e;
    sort = address u;
    local = refl;
    expression = as_value (address u) c.zero;
    no_load = λ m. refl;
    expressed = ap (λ k. converted k (p q) q) e ∙ ap (λ k. converted (Some (address u)) k q) kq;
    assigned = λ r. refl;
    dropped = refl;
    step = λ n g s t w h.
        casting.null-step z.program z.function z.signature h.map (calls (again_at z n)) s t.memory h.between.rel w z.body.scope p g h.between.registers a (address u) e (λ k i. absurd (cc)) q f kq;
  }

  pub null-code-given : (f : Kind → Bool) (a u : SourceType) → p q ≡ integer_of f → sort_of a ≡ Some (code u) → Given z around p (plain.convert a q)
  null-code-given f a u kq e = record {
    kept = holds (code u);
    is = ap of_sort e;
    sort = code u;
    local = refl;
    expression = as_value (code u) c.zero;
    no_load = λ m. refl;
    expressed = ap (λ k. converted k (p q) q) e ∙ ap (λ k. converted (Some (code u)) k q) kq;
    assigned = λ r. refl;
    dropped = refl;
    step = λ n g s t w h.
        casting.null-step z.program z.function z.signature h.map (calls (again_at z n)) s t.memory h.between.rel w z.body.scope p g h.between.registers a (code u) e (λ k i. absurd (cc)) q f kq;
  }

  -- a function stays what it is (4.6)
  module _ (u : SourceType) (kq : p q ≡ holds (code u)) where
    decay-code-step : (n : ℕ) (g : Registers) (s : State) (t : c_flow.State) (w : World) (h : Here (fixed_in z) z.body p (depth_of around) g s t)
        → Step (fixed_in z) h.map (acts (calls (again_at z n)) z.program g (plain.decay q) s w) s w (holds (code u))
        (value_of (as_value (code u) (in_register (code u) q)) z.body.scope t.memory)
    decay-code-step n g s t w h =
        one-step z.program z.function z.signature h.map s t.memory w z.body.scope p g h.between.registers (holds (code u))
        (value_of (as_value (code u) (in_register (code u) q)) z.body.scope t.memory) q (holds (code u)) (code u) (decayed z.program.classes) kq refl of-value
      where
        of-value : (v : source.Value) → HasValue (fixed_in z) h.map (holds (code u)) v (value_of (in_register (code u) q) z.body.scope t.memory)
            → Step (fixed_in z) h.map (decayed z.program.classes v s w) s w (holds (code u)) (value_of (as_value (code u) (in_register (code u) q)) z.body.scope t.memory)
        of-value (source.Code f) hv = record {
          by = (
            refl,
            refl,
            record {
              value = hv.value;
              is = ap (λ a. on_ok a (λ v. fitted scalar.Function v)) hv.is ∙ ap (fitted scalar.Function) hv.same.is ∙ ap (λ (v : Value). Ok v) (sym hv.same.is);
              same = hv.same;
            },
          );
        }
        of-value source.Null hv = record { by = tt }
        of-value v hv = absurd hv.same

    pub decay-code-given : Given z around p (plain.decay q)
    decay-code-given = record {
      kept = holds (code u);
      is = ap decayed_kept kq;
      sort = code u;
      local = refl;
      expression = as_value (code u) (in_register (code u) q);
      no_load = λ m. refl;
      expressed = ap (λ k. same_value k q) kq;
      assigned = λ r. refl;
      dropped = refl;
      step = decay-code-step;
    }
