-- What is true or not.
use Rattle.std.proofs.Common.{◌≡◌, ℕ, Bool, true, false, not, refl, ◌∙◌, ap}
use Rattle.std.specs.Prelude.{Some}
use Rattle.cf_base.specs.declared.kind.Kind.{Kind}
use Rattle.cf_base.specs.declared.kind.Kind.TheVariants.{Int}
use Rattle.cf_base.specs.declared.arith.Arith.TheVariants as op
use Rattle.cf_core.specs.Types.{SourceType}
use Rattle.cf_lower_layout.specs.Sorts.{number, address, code}
use Rattle.cf_plain.specs.Plain as plain
use Rattle.cf_plain.specs.Plain.{Register}
use Rattle.cf_plain.specs.Running.{calls}
use Rattle.cc_whole.specs.Plain.{binary}
use Rattle.cf_lower.specs.Kept.{integer_of, holds, Keeping, a_truth, local_kept}
use Rattle.cf_lower.specs.Expressions.{zero as nought, in_register, integer_in, local_value}
use Rattle.cf_lower_steps.proofs.Truths as truths
use Rattle.cf_lower_turns.specs.Around.{Around}
use Rattle.cf_lower_turns.specs.Scene.{Scene, again_at}
use Rattle.cf_lower_pointers.proofs.Testing as testing
use Rattle.cf_lower_pointers.proofs.Testing.{is_true, is_not}
use Rattle.cf_lower_actions.specs.Fits.{Fits}
use Rattle.cf_lower_actions.specs.Given.{Given}

module _ (z : Scene) (fits : Fits z) (around : Around Keeping) (p : Keeping) (q : Register) where
  module _ (y : SourceType) (kq : p q ≡ holds (address y)) where
    pub truth-given : Given z around p (plain.truth q)
    truth-given = record {
      kept = a_truth;
      is = refl;
      sort = number Int;
      local = refl;
      expression = binary op.NotEqual (in_register (address y) q) nought;
      no_load = λ m. refl;
      expressed = ap (λ k. binary op.NotEqual (local_value (local_kept k) q) nought) kq;
      assigned = λ r. refl;
      dropped = refl;
      step = λ n g s t w h.
          testing.test-step z.program z.function z.signature h.map (calls (again_at z n)) s t.memory w z.body.scope p g h.between.registers q y kq op.NotEqual (λ b. b) is_true;
    }

    pub not-given : Given z around p (plain.logical_not q)
    not-given = record {
      kept = a_truth;
      is = refl;
      sort = number Int;
      local = refl;
      expression = binary op.Equal (in_register (address y) q) nought;
      no_load = λ m. refl;
      expressed = ap (λ k. binary op.Equal (local_value (local_kept k) q) nought) kq;
      assigned = λ r. refl;
      dropped = refl;
      step = λ n g s t w h.
          testing.test-step z.program z.function z.signature h.map (calls (again_at z n)) s t.memory w z.body.scope p g h.between.registers q y kq op.Equal (λ b. not b) is_not;
    }

  module _ (y : SourceType) (kq : p q ≡ holds (code y)) where
    pub truth-code-given : Given z around p (plain.truth q)
    truth-code-given = record {
      kept = a_truth;
      is = refl;
      sort = number Int;
      local = refl;
      expression = binary op.NotEqual (in_register (code y) q) nought;
      no_load = λ m. refl;
      expressed = ap (λ k. binary op.NotEqual (local_value (local_kept k) q) nought) kq;
      assigned = λ r. refl;
      dropped = refl;
      step = λ n g s t w h.
          testing.code-test-step z.program z.function z.signature h.map (calls (again_at z n)) s t.memory w z.body.scope p g h.between.registers q fits.numbered y kq op.NotEqual (λ b. b) is_true;
    }

    pub not-code-given : Given z around p (plain.logical_not q)
    not-code-given = record {
      kept = a_truth;
      is = refl;
      sort = number Int;
      local = refl;
      expression = binary op.Equal (in_register (code y) q) nought;
      no_load = λ m. refl;
      expressed = ap (λ k. binary op.Equal (local_value (local_kept k) q) nought) kq;
      assigned = λ r. refl;
      dropped = refl;
      step = λ n g s t w h.
          testing.code-test-step z.program z.function z.signature h.map (calls (again_at z n)) s t.memory w z.body.scope p g h.between.registers q fits.numbered y kq op.Equal (λ b. not b) is_not;
    }

  module _ (f : Kind → Bool) (kq : p q ≡ integer_of f) where
    pub truth-number-given : Given z around p (plain.truth q)
    truth-number-given = record {
      kept = a_truth;
      is = refl;
      sort = number Int;
      local = refl;
      expression = binary op.NotEqual (integer_in q) nought;
      no_load = λ m. refl;
      expressed = ap (λ k. binary op.NotEqual (local_value (local_kept k) q) nought) kq;
      assigned = λ r. refl;
      dropped = refl;
      step = λ n g s t w h.
          truths.truth-step z.program z.function z.signature h.map (calls (again_at z n)) s t.memory w z.body.scope p g h.between.registers q f kq;
    }

    pub not-number-given : Given z around p (plain.logical_not q)
    not-number-given = record {
      kept = a_truth;
      is = refl;
      sort = number Int;
      local = refl;
      expression = binary op.Equal (integer_in q) nought;
      no_load = λ m. refl;
      expressed = ap (λ k. binary op.Equal (local_value (local_kept k) q) nought) kq;
      assigned = λ r. refl;
      dropped = refl;
      step = λ n g s t w h.
          testing.number-not-step z.program z.function z.signature h.map (calls (again_at z n)) s t.memory w z.body.scope p g h.between.registers q f kq;
    }
