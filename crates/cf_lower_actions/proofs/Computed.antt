-- Integers that are computed, and scalars that are read.
use Rattle.std.proofs.Common.{◌≡◌, ℕ, Bool, true, ◌||◌, if◌then◌else◌, refl, sym, ◌∙◌, ap, subst}
use Rattle.std.specs.Prelude.{ℤ, Some}
use Rattle.cf_base.specs.declared.kind.Kind.{Kind}
use Rattle.cf_base.specs.declared.kind.Kind.TheVariants.{Int, UInt}
use Rattle.cf_base.specs.declared.arith.Arith.{Arith}
use Rattle.cf_base.specs.declared.arith.Arith.TheVariants as op
use Rattle.cf_base.specs.Integers.{fits}
use Rattle.cf_base.specs.Promotion.{promoted}
use Rattle.cf_core.specs.declared.operators.UnaryOperator.TheVariants as sign
use Rattle.cf_core.specs.Types.{SourceType}
use Rattle.cf_core.specs.Core.{arithmetic}
use Rattle.cf_lower_layout.specs.Sorts.{Sort, number, address, sort_of}
use Rattle.cf_plain.specs.Plain as plain
use Rattle.cf_plain.specs.Plain.{Register}
use Rattle.cf_plain.specs.Acts.{acts}
use Rattle.cf_plain.specs.Running.{calls}
use Rattle.cc_whole.specs.declared.expression.Prefix.TheVariants as prefix
use Rattle.cc_whole.specs.Plain.{unary}
use Rattle.cc_whole_mean.specs.Values.{value_of}
use Rattle.cf_lower.specs.Kept.{Kept, unknown, integer_of, holds, Keeping, of_kind, of_sort, read_kept, result_kept, local_kept}
use Rattle.cf_lower.specs.Expressions.{integer_in, address_in, as_bits, at_kind, operated, converted, read_value, loaded_or, loaded, constant_of}
use Rattle.cf_lower_steps.specs.Steps.{Step}
use Rattle.cf_lower_steps.proofs.Lowered.{register_sort}
use Rattle.cf_lower_steps.proofs.Operators.{operate-step}
use Rattle.cf_lower_steps.proofs.Values.{number-step, read-step}
use Rattle.cf_lower_turns.specs.Around.{Around}
use Rattle.cf_lower_turns.specs.Scene.{Scene, fixed_in, again_at}
use Rattle.cf_lower_pointers.proofs.Signs as signs
use Rattle.cf_lower_leaves.proofs.Leaves.{sort-local, result-local}
use Rattle.cf_lower_actions.specs.Given.{Given}

module _ (z : Scene) (around : Around Keeping) (p : Keeping) where
  pub number-given : (k : ℤ) → fits Int k || fits UInt k ≡ true → Given z around p (plain.number k)
  number-given k word =
      let here = ap (λ b. if b then integer_of (λ j. fits j k) else unknown) word in
      record {
        kept = integer_of (λ j. fits j k);
        is = here;
        sort = number Int;
        local = refl;
        expression = constant_of k;
        no_load = λ m. refl;
        expressed = refl;
        assigned = λ r. refl;
        dropped = refl;
        step = λ n g s t w h.
            subst (λ x. Step (fixed_in z) h.map (acts (calls (again_at z n)) z.program g (plain.number k) s w) s w x (value_of (constant_of k) z.body.scope t.memory)) here
            (number-step z.program z.function z.signature h.map (calls (again_at z n)) s t.memory h.between.rel w z.body.scope p g h.between.registers k);
      }

  pub read-given : (q : Register) (y : SourceType) (u : Sort) → p q ≡ holds (address y) → sort_of y ≡ Some u → Given z around p (plain.read q)
  read-given q y u kq e = record {
    kept = of_sort (Some u);
    is = ap read_kept kq ∙ ap of_sort e;
    sort = register_sort u;
    local = sort-local u;
    expression = loaded u (address_in q);
    no_load = λ m. refl;
    expressed = ap (λ k. read_value k q) kq ∙ ap (λ k. loaded_or k q) e;
    assigned = λ r. refl;
    dropped = refl;
    step = λ n g s t w h.
        read-step z.program z.function z.signature h.map (calls (again_at z n)) s t.memory h.between.rel w z.body.scope p g h.between.registers q y u kq e;
  }

  pub operate-given : (q v : Register) (o : Arith) (k : Kind) (f a : Kind → Bool) → promoted k ≡ k → p q ≡ integer_of f → p v ≡ integer_of a → Given z around p (plain.operate o k q v)
  operate-given q v o k f a pk kq kv = record {
    kept = result_kept o k;
    is = refl;
    sort = number Int;
    local = result-local o k;
    expression = as_bits (operated o k (integer_in q) (integer_in v));
    no_load = λ m. refl;
    expressed = refl;
    assigned = λ r. refl;
    dropped = refl;
    step = λ n g s t w h.
        operate-step z.program z.function z.signature h.map (calls (again_at z n)) s t.memory w z.body.scope p g h.between.registers o k q v f a pk kq kv;
  }

  module _ (q : Register) (f : Kind → Bool) (kq : p q ≡ integer_of f) where
    pub conversion-given : (a : SourceType) (k : Kind) → sort_of a ≡ Some (number k) → Given z around p (plain.convert a q)
    conversion-given a k e = record {
      kept = of_kind k;
      is = ap of_sort e;
      sort = number Int;
      local = refl;
      expression = as_bits (at_kind k (integer_in q));
      no_load = λ m. refl;
      expressed = ap (λ x. converted x (p q) q) e;
      assigned = λ r. refl;
      dropped = refl;
      step = λ n g s t w h.
          signs.conversion-step z.program z.function z.signature h.map (calls (again_at z n)) s t.memory w z.body.scope p g h.between.registers q f kq a k e;
    }

    pub negate-given : (k : Kind) → promoted k ≡ k → Given z around p (plain.unary sign.Negate k q)
    negate-given k pk = record {
      kept = of_kind k;
      is = refl;
      sort = number Int;
      local = refl;
      expression = as_bits (unary prefix.Negate (at_kind k (integer_in q)));
      no_load = λ m. refl;
      expressed = refl;
      assigned = λ r. refl;
      dropped = refl;
      step = λ n g s t w h.
          signs.negate-step z.program z.function z.signature h.map (calls (again_at z n)) s t.memory w z.body.scope p g h.between.registers q f kq k pk;
    }

    pub complement-given : (k : Kind) → promoted k ≡ k → Given z around p (plain.unary sign.Complement k q)
    complement-given k pk = record {
      kept = of_kind k;
      is = refl;
      sort = number Int;
      local = refl;
      expression = as_bits (unary prefix.Complement (at_kind k (integer_in q)));
      no_load = λ m. refl;
      expressed = refl;
      assigned = λ r. refl;
      dropped = refl;
      step = λ n g s t w h.
          signs.complement-step z.program z.function z.signature h.map (calls (again_at z n)) s t.memory w z.body.scope p g h.between.registers q f kq k pk;
    }

    pub changed-given : (o : Arith) (k to : Kind) → promoted k ≡ k → (v : Register) (a : Kind → Bool) → p v ≡ integer_of a → Given z around p (plain.changed (arithmetic o k to) q v)
    changed-given o k to pk v a kv = record {
      kept = of_kind to;
      is = refl;
      sort = number Int;
      local = refl;
      expression = as_bits (at_kind to (operated o k (integer_in q) (integer_in v)));
      no_load = λ m. refl;
      expressed = refl;
      assigned = λ r. refl;
      dropped = refl;
      step = λ n g s t w h.
          signs.changed-step z.program z.function z.signature h.map (calls (again_at z n)) s t.memory w z.body.scope p g h.between.registers q f kq k pk o to v a kv;
    }
