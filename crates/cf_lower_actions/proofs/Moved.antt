-- Pointers that are moved.
use Rattle.std.proofs.Common.{◌≡◌, ℕ, Bool, true, false, refl, ◌∙◌, ap}
use Rattle.std.specs.Prelude.{Some}
use Rattle.cf_base.specs.declared.kind.Kind.{Kind}
use Rattle.cf_base.specs.declared.arith.Arith.TheVariants as op
use Rattle.cf_core.specs.declared.operators.PointerOperator.TheVariants as pointer
use Rattle.cf_core.specs.Types.{SourceType, void}
use Rattle.cf_core.specs.Core.{moved}
use Rattle.cf_core.specs.Size.{size}
use Rattle.cf_lower_layout.specs.Sorts.{number, address}
use Rattle.cf_plain.specs.Plain as plain
use Rattle.cf_plain.specs.Plain.{Register}
use Rattle.cf_plain.specs.Running.{calls}
use Rattle.cf_lower.specs.Kept.{integer_of, holds, Keeping, pointer_of}
use Rattle.cf_lower.specs.Expressions.{moved_by, sum_by, element_bytes, address_in, integer_in}
use Rattle.cf_lower_turns.specs.Around.{Around}
use Rattle.cf_lower_turns.specs.Scene.{Scene, again_at}
use Rattle.cf_lower_pointers.proofs.Moving as moving
use Rattle.cf_lower_actions.specs.Fits.{Fits}
use Rattle.cf_lower_actions.specs.Given.{Given}

module _ (z : Scene) (fits : Fits z) (around : Around Keeping) (p : Keeping) (q v : Register) (y : SourceType) (f : Kind → Bool) (no_void : y ≡ void → ⊥) where
  module _ (kq : p q ≡ holds (address y)) (kv : p v ≡ integer_of f) where
    pub sum-given : Given z around p (plain.pointer_operate pointer.Add q v)
    sum-given = record {
      kept = holds (address y);
      is = ap (λ k. pointer_of k (p v)) kq;
      sort = address y;
      local = refl;
      expression = moved_by op.Add (address_in q) (size z.program.classes y) (integer_in v);
      no_load = λ m. refl;
      expressed = ap (λ k. sum_by z.inside.classes k (p v) q v) kq ∙ ap (λ cs. moved_by op.Add (address_in q) (size cs y) (integer_in v)) fits.classes;
      assigned = λ r. refl;
      dropped = refl;
      step = λ n g s t w h.
          moving.sum-step z.program z.function z.signature h.map (calls (again_at z n)) s t.memory h.between.rel w z.body.scope p g h.between.registers y no_void f q v kq kv;
    }

    pub index-given : Given z around p (plain.index q v)
    index-given = record {
      kept = holds (address y);
      is = ap (λ k. pointer_of k (p v)) kq;
      sort = address y;
      local = refl;
      expression = moved_by op.Add (address_in q) (size z.program.classes y) (integer_in v);
      no_load = λ m. refl;
      expressed = ap (λ k. sum_by z.inside.classes k (p v) q v) kq ∙ ap (λ cs. moved_by op.Add (address_in q) (size cs y) (integer_in v)) fits.classes;
      assigned = λ r. refl;
      dropped = refl;
      step = λ n g s t w h.
          moving.index-step z.program z.function z.signature h.map (calls (again_at z n)) s t.memory h.between.rel w z.body.scope p g h.between.registers y no_void f q v kq kv;
    }

    pub back-given : Given z around p (plain.pointer_operate pointer.Subtract q v)
    back-given = record {
      kept = holds (address y);
      is = kq;
      sort = address y;
      local = refl;
      expression = moved_by op.Subtract (address_in q) (size z.program.classes y) (integer_in v);
      no_load = λ m. refl;
      expressed = ap (λ k. moved_by op.Subtract (address_in q) (element_bytes z.inside.classes k) (integer_in v)) kq ∙ ap (λ cs. moved_by op.Subtract (address_in q) (size cs y) (integer_in v)) fits.classes;
      assigned = λ r. refl;
      dropped = refl;
      step = λ n g s t w h.
          moving.back-step z.program z.function z.signature h.map (calls (again_at z n)) s t.memory h.between.rel w z.body.scope p g h.between.registers y no_void f q v kq kv;
    }

    pub forward-given : Given z around p (plain.changed (moved false) q v)
    forward-given = record {
      kept = holds (address y);
      is = kq;
      sort = address y;
      local = refl;
      expression = moved_by op.Add (address_in q) (size z.program.classes y) (integer_in v);
      no_load = λ m. refl;
      expressed = ap (λ k. moved_by op.Add (address_in q) (element_bytes z.inside.classes k) (integer_in v)) kq ∙ ap (λ cs. moved_by op.Add (address_in q) (size cs y) (integer_in v)) fits.classes;
      assigned = λ r. refl;
      dropped = refl;
      step = λ n g s t w h.
          moving.changed-forward z.program z.function z.signature h.map (calls (again_at z n)) s t.memory h.between.rel w z.body.scope p g h.between.registers y no_void f q v kq kv;
    }

    pub backward-given : Given z around p (plain.changed (moved true) q v)
    backward-given = record {
      kept = holds (address y);
      is = kq;
      sort = address y;
      local = refl;
      expression = moved_by op.Subtract (address_in q) (size z.program.classes y) (integer_in v);
      no_load = λ m. refl;
      expressed = ap (λ k. moved_by op.Subtract (address_in q) (element_bytes z.inside.classes k) (integer_in v)) kq ∙ ap (λ cs. moved_by op.Subtract (address_in q) (size cs y) (integer_in v)) fits.classes;
      assigned = λ r. refl;
      dropped = refl;
      step = λ n g s t w h.
          moving.changed-back z.program z.function z.signature h.map (calls (again_at z n)) s t.memory h.between.rel w z.body.scope p g h.between.registers y no_void f q v kq kv;
    }

  -- the integer first
  module _ (kq : p q ≡ integer_of f) (kv : p v ≡ holds (address y)) where
    pub sum-turned-given : Given z around p (plain.pointer_operate pointer.Add q v)
    sum-turned-given = record {
      kept = holds (address y);
      is = ap (λ k. pointer_of k (p v)) kq ∙ kv;
      sort = address y;
      local = refl;
      expression = moved_by op.Add (address_in v) (size z.program.classes y) (integer_in q);
      no_load = λ m. refl;
      expressed = ap (λ k. sum_by z.inside.classes k (p v) q v) kq ∙ ap (λ k. moved_by op.Add (address_in v) (element_bytes z.inside.classes k) (integer_in q)) kv
          ∙ ap (λ cs. moved_by op.Add (address_in v) (size cs y) (integer_in q)) fits.classes;
      assigned = λ r. refl;
      dropped = refl;
      step = λ n g s t w h.
          moving.sum-turned z.program z.function z.signature h.map (calls (again_at z n)) s t.memory h.between.rel w z.body.scope p g h.between.registers y no_void f q v kq kv;
    }

    pub index-turned-given : Given z around p (plain.index q v)
    index-turned-given = record {
      kept = holds (address y);
      is = ap (λ k. pointer_of k (p v)) kq ∙ kv;
      sort = address y;
      local = refl;
      expression = moved_by op.Add (address_in v) (size z.program.classes y) (integer_in q);
      no_load = λ m. refl;
      expressed = ap (λ k. sum_by z.inside.classes k (p v) q v) kq ∙ ap (λ k. moved_by op.Add (address_in v) (element_bytes z.inside.classes k) (integer_in q)) kv
          ∙ ap (λ cs. moved_by op.Add (address_in v) (size cs y) (integer_in q)) fits.classes;
      assigned = λ r. refl;
      dropped = refl;
      step = λ n g s t w h.
          moving.index-turned z.program z.function z.signature h.map (calls (again_at z n)) s t.memory h.between.rel w z.body.scope p g h.between.registers y no_void f q v kq kv;
    }
