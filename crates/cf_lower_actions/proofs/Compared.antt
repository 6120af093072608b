-- Pointers that are compared and subtracted.
use Rattle.std.proofs.Common.{◌≡◌, ℕ, Bool, true, false, not, refl, ◌∙◌, ap}
use Rattle.std.specs.Prelude.{Some}
use Rattle.cf_base.specs.declared.kind.Kind.TheVariants.{Int}
use Rattle.cf_base.specs.declared.arith.Arith.{Arith}
use Rattle.cf_base.specs.declared.arith.Arith.TheVariants as op
use Rattle.cf_core.specs.declared.operators.PointerOperator.TheVariants as pointer
use Rattle.cf_core.specs.Types.{SourceType, void}
use Rattle.cf_core.specs.Size.{size}
use Rattle.cf_lower_layout.specs.Sorts.{number, address}
use Rattle.cf_plain.specs.Plain as plain
use Rattle.cf_plain.specs.Plain.{Register}
use Rattle.cf_plain.specs.Running.{calls}
use Rattle.cc_whole.specs.Plain.{binary, constant}
use Rattle.cf_lower.specs.Kept.{holds, Keeping, a_truth, of_kind, local_kept}
use Rattle.cf_lower.specs.Written.{int_constant}
use Rattle.cf_lower.specs.Expressions.{element_bytes, address_in, in_register, local_value, equated}
use Rattle.cf_lower_turns.specs.Around.{Around}
use Rattle.cf_lower_turns.specs.Scene.{Scene, again_at}
use Rattle.cf_lower_pointers.proofs.Answers.{equal, unequal}
use Rattle.cf_lower_pointers.proofs.Comparing as comparing
use Rattle.cf_lower_pointers.proofs.Comparing.{less, greater, less-equal, greater-equal}
use Rattle.cf_lower_actions.specs.Fits.{Fits}
use Rattle.cf_lower_actions.specs.Given.{Given}

module _ (z : Scene) (fits : Fits z) (around : Around Keeping) (p : Keeping) (q v : Register) (y u : SourceType) where
  module _ (kq : p q ≡ holds (address y)) (kv : p v ≡ holds (address u)) where
    both-in : (o : Arith) → binary o (local_value (local_kept (p q)) q) (local_value (local_kept (p v)) v) ≡ binary o (in_register (address y) q) (in_register (address u) v)
    both-in o =
        ap (λ k. binary o (local_value (local_kept k) q) (local_value (local_kept (p v)) v)) kq
        ∙ ap (λ k. binary o (in_register (address y) q) (local_value (local_kept k) v)) kv

    equals-in : (o : Arith) → equated o (p q) (local_value (local_kept (p q)) q) (local_value (local_kept (p v)) v)
        ≡ binary o (in_register (address y) q) (in_register (address u) v)
    equals-in o =
        ap (λ k. equated o k (local_value (local_kept k) q) (local_value (local_kept (p v)) v)) kq
        ∙ ap (λ k. binary o (in_register (address y) q) (local_value (local_kept k) v)) kv

    pub less-given : Given z around p (plain.pointer_operate pointer.Less q v)
    less-given = record {
      kept = a_truth;
      is = refl;
      sort = number Int;
      local = refl;
      expression = binary op.Less (in_register (address y) q) (in_register (address u) v);
      no_load = λ m. refl;
      expressed = both-in op.Less;
      assigned = λ r. refl;
      dropped = refl;
      step = λ n g s t w h.
          comparing.ordered-step z.program z.function z.signature h.map s t.memory h.between.rel w z.body.scope (calls (again_at z n)) p g h.between.registers q v y u kq kv op.Less _ less;
    }

    pub greater-given : Given z around p (plain.pointer_operate pointer.Greater q v)
    greater-given = record {
      kept = a_truth;
      is = refl;
      sort = number Int;
      local = refl;
      expression = binary op.Greater (in_register (address y) q) (in_register (address u) v);
      no_load = λ m. refl;
      expressed = both-in op.Greater;
      assigned = λ r. refl;
      dropped = refl;
      step = λ n g s t w h.
          comparing.ordered-step z.program z.function z.signature h.map s t.memory h.between.rel w z.body.scope (calls (again_at z n)) p g h.between.registers q v y u kq kv op.Greater _ greater;
    }

    pub less-equal-given : Given z around p (plain.pointer_operate pointer.LessEqual q v)
    less-equal-given = record {
      kept = a_truth;
      is = refl;
      sort = number Int;
      local = refl;
      expression = binary op.LessEqual (in_register (address y) q) (in_register (address u) v);
      no_load = λ m. refl;
      expressed = both-in op.LessEqual;
      assigned = λ r. refl;
      dropped = refl;
      step = λ n g s t w h.
          comparing.ordered-step z.program z.function z.signature h.map s t.memory h.between.rel w z.body.scope (calls (again_at z n)) p g h.between.registers q v y u kq kv op.LessEqual _ less-equal;
    }

    pub greater-equal-given : Given z around p (plain.pointer_operate pointer.GreaterEqual q v)
    greater-equal-given = record {
      kept = a_truth;
      is = refl;
      sort = number Int;
      local = refl;
      expression = binary op.GreaterEqual (in_register (address y) q) (in_register (address u) v);
      no_load = λ m. refl;
      expressed = both-in op.GreaterEqual;
      assigned = λ r. refl;
      dropped = refl;
      step = λ n g s t w h.
          comparing.ordered-step z.program z.function z.signature h.map s t.memory h.between.rel w z.body.scope (calls (again_at z n)) p g h.between.registers q v y u kq kv op.GreaterEqual _ greater-equal;
    }

    pub equal-given : Given z around p (plain.pointer_operate pointer.Equal q v)
    equal-given = record {
      kept = a_truth;
      is = refl;
      sort = number Int;
      local = refl;
      expression = binary op.Equal (in_register (address y) q) (in_register (address u) v);
      no_load = λ m. refl;
      expressed = equals-in op.Equal;
      assigned = λ r. refl;
      dropped = refl;
      step = λ n g s t w h.
          comparing.equal-step z.program z.function z.signature h.map s t.memory h.between.rel w z.body.scope (calls (again_at z n)) p g h.between.registers q v y u kq kv op.Equal (λ b. b) equal;
    }

    pub unequal-given : Given z around p (plain.pointer_operate pointer.NotEqual q v)
    unequal-given = record {
      kept = a_truth;
      is = refl;
      sort = number Int;
      local = refl;
      expression = binary op.NotEqual (in_register (address y) q) (in_register (address u) v);
      no_load = λ m. refl;
      expressed = equals-in op.NotEqual;
      assigned = λ r. refl;
      dropped = refl;
      step = λ n g s t w h.
          comparing.equal-step z.program z.function z.signature h.map s t.memory h.between.rel w z.body.scope (calls (again_at z n)) p g h.between.registers q v y u kq kv op.NotEqual (λ b. not b) unequal;
    }

    pub difference-given : (y ≡ void → ⊥) → Given z around p (plain.pointer_operate pointer.Difference q v)
    difference-given no_void = record {
      kept = of_kind Int;
      is = refl;
      sort = number Int;
      local = refl;
      expression = binary op.Divide (binary op.Subtract (address_in q) (address_in v)) (constant (int_constant (size z.program.classes y)));
      no_load = λ m. refl;
      expressed = ap (λ k. binary op.Divide (binary op.Subtract (address_in q) (address_in v)) (constant (int_constant (element_bytes z.inside.classes k)))) kq
          ∙ ap (λ cs. binary op.Divide (binary op.Subtract (address_in q) (address_in v)) (constant (int_constant (size cs y)))) fits.classes;
      assigned = λ r. refl;
      dropped = refl;
      step = λ n g s t w h.
          comparing.difference-step z.program z.function z.signature h.map s t.memory h.between.rel w z.body.scope (calls (again_at z n)) p g h.between.registers q v y u kq kv no_void;
    }
