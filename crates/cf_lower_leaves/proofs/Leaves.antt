-- Actions as leaves.
use Rattle.std.proofs.Common.{◌≡◌, ℕ, ◌<◌, Bool, true, ◌||◌, if◌then◌else◌, [], ◌∷◌, refl, sym, ◌∙◌, ap, subst}
use Rattle.std.specs.Prelude.{ℤ, Some}
use Rattle.cf_base.specs.declared.kind.Kind.{Kind}
use Rattle.cf_base.specs.declared.kind.Kind.TheVariants.{Int, UInt}
use Rattle.cf_base.specs.declared.arith.Arith.{Arith}
use Rattle.cf_base.specs.declared.arith.Arith.TheVariants as op
use Rattle.cf_base.specs.Integers.{fits}
use Rattle.cf_base.specs.Promotion.{promoted}
use Rattle.cf_core.specs.Types.{SourceType}
use Rattle.cf_lower_layout.specs.Sorts.{Sort, number, address, sort_of}
use Rattle.cf_plain.specs.Plain as plain
use Rattle.cf_plain.specs.Plain.{Register, Action, act, set}
use Rattle.cf_plain.specs.Acts.{acts}
use Rattle.cf_plain.specs.Running.{calls, does}
use Rattle.cc_whole.specs.Plain.{pointed}
use Rattle.cc_whole_mean.specs.Values.{value_of}
use Rattle.cf_lower.specs.Kept.{Kept, unknown, integer_of, holds, Keeping, keep, local_kept, of_sort, read_kept, result_kept, after}
use Rattle.cf_lower.specs.Expressions.{read_value, loaded_or, loaded, address_in, integer_in, local_value, as_stored, as_bits, operated, constant_of}
use Rattle.cf_lower.specs.Statements.{lowered, put_in, stored_in, stored as stored_at, put}
use Rattle.cf_lower.specs.Written.{c_type}
use Rattle.cf_lower_steps.specs.Steps.{Step}
use Rattle.cf_lower_steps.specs.Flows.{Simulates}
use Rattle.cf_lower_steps.specs.Lowering.{Takes}
use Rattle.cf_lower_steps.proofs.Lowered.{register_sort}
use Rattle.cf_lower_steps.proofs.Operators.{operate-step}
use Rattle.cf_lower_steps.proofs.Stores as stores
use Rattle.cf_lower_steps.proofs.Values.{number-step, read-step}
use Rattle.cf_lower_turns.specs.Around.{Around, inside_at}
use Rattle.cf_lower_turns.specs.Here.{Here}
use Rattle.cf_lower_turns.specs.Ways.{ends}
use Rattle.cf_lower_turns.specs.Scene.{GivesBack, Scene, fixed_in, again_at, list_at, LeafRuns}
use Rattle.cf_lower_leaves.specs.Leaves.{SetBy}
use Rattle.cf_lower_leaves.proofs.Setting.{set-step, store-step}
use Rattle.cf_lower_leaves.proofs.Storing.{store-keeps}

pub sort-local : (u : Sort) → local_kept (of_sort (Some u)) ≡ Some (register_sort u)
sort-local (number k) = refl
sort-local (address t) = refl
sort-local u = refl

pub result-local : (o : Arith) (k : Kind) → local_kept (result_kept o k) ≡ Some (number Int)
result-local op.Less k = refl
result-local op.Greater k = refl
result-local op.LessEqual k = refl
result-local op.GreaterEqual k = refl
result-local op.Equal k = refl
result-local op.NotEqual k = refl
result-local o k = refl

module _ (z : Scene) (around : Around Keeping) (p : Keeping) where
  pub set-leaf : (r : Register) (a : Action) → r < z.body.own.bound → SetBy z around p r a → LeafRuns z around p (set r a)
  set-leaf r a lt by n g s t w h =
      subst (λ ss. Simulates (ends Keeping z.body.scope (Here (fixed_in z) z.body) (GivesBack (fixed_in z) z.body z.result) around (after z.inside.locals (set r a) p))
      (does (again_at z n) z.program (set r a) g s w) (list_at z n ss t w)) (sym by.written)
      (set-step z n around p (after z.inside.locals (set r a) p) g s t w h by.kept by.sort r lt by.local by.expression (by.no_load t.memory) (ap (keep p r) by.is) _
      (by.step n g s t w h))

  module _ (r : Register) (lt : r < z.body.own.bound) where
    pub number-leaf : (n : ℤ) → fits Int n || fits UInt n ≡ true → LeafRuns z around p (set r (plain.number n))
    number-leaf n word =
        let here = ap (λ b. if b then integer_of (λ k. fits k n) else unknown) word in
        set-leaf r (plain.number n) lt
        (record {
          kept = integer_of (λ k. fits k n);
          is = here;
          sort = number Int;
          local = refl;
          expression = constant_of n;
          no_load = λ m. refl;
          written = ap (λ x. put_in (inside_at z.inside around) (local_kept x) r (constant_of n)) here;
          step = λ i g s t w h. subst (λ x. Step (fixed_in z) h.map (acts (calls (again_at z i)) z.program g (plain.number n) s w) s w x (value_of (constant_of n) z.body.scope t.memory)) here
              (number-step z.program z.function z.signature h.map (calls (again_at z i)) s t.memory h.between.rel w z.body.scope p g h.between.registers n);
        })

    pub read-leaf : (q : Register) (y : SourceType) (u : Sort) → p q ≡ holds (address y) → sort_of y ≡ Some u → LeafRuns z around p (set r (plain.read q))
    read-leaf q y u kq e = set-leaf r (plain.read q) lt
        (record {
          kept = of_sort (Some u);
          is = ap read_kept kq ∙ ap of_sort e;
          sort = register_sort u;
          local = sort-local u;
          expression = loaded u (address_in q);
          no_load = λ m. refl;
          written = ap (λ x. put_in (inside_at z.inside around) (local_kept (read_kept x)) r (read_value x q)) kq
              ∙ ap (λ x. put_in (inside_at z.inside around) (local_kept (of_sort x)) r (loaded_or x q)) e
              ∙ ap (λ x. put_in (inside_at z.inside around) x r (loaded u (address_in q))) (sort-local u);
          step = λ i g s t w h. read-step z.program z.function z.signature h.map (calls (again_at z i)) s t.memory h.between.rel w z.body.scope p g h.between.registers q y u kq e;
        })

    pub operate-leaf : (q v : Register) (o : Arith) (k : Kind) (f h : Kind → Bool) → promoted k ≡ k → p q ≡ integer_of f → p v ≡ integer_of h
        → LeafRuns z around p (set r (plain.operate o k q v))
    operate-leaf q v o k f h pk kq kv = set-leaf r (plain.operate o k q v) lt
        (record {
          kept = result_kept o k;
          is = refl;
          sort = number Int;
          local = result-local o k;
          expression = as_bits (operated o k (integer_in q) (integer_in v));
          no_load = λ m. refl;
          written = ap (λ x. put_in (inside_at z.inside around) x r (as_bits (operated o k (integer_in q) (integer_in v)))) (result-local o k);
          step = λ i g s t w a. operate-step z.program z.function z.signature a.map (calls (again_at z i)) s t.memory w z.body.scope p g a.between.registers o k q v f h pk kq kv;
        })

  pub store-leaf : (r q : Register) (y : SourceType) (u : Sort) (x : Kept) (a : Sort) → p r ≡ holds (address y) → sort_of y ≡ Some u → p q ≡ x
      → local_kept x ≡ Some a → Takes u x → LeafRuns z around p (act (plain.store r q))
  store-leaf r q y u x a kr e kq lx takes n g s t w h =
      subst (λ ss. Simulates (ends Keeping z.body.scope (Here (fixed_in z) z.body) (GivesBack (fixed_in z) z.body z.result) around p)
      (does (again_at z n) z.program (act (plain.store r q)) g s w) (list_at z n ss t w))
      (sym (ap (λ k. stored_in k r (local_value (local_kept (p q)) q)) kr
      ∙ ap (λ i. stored_at i r (local_value (local_kept (p q)) q)) e
      ∙ ap (λ k. put u (address_in r) (local_value (local_kept k) q) ∷ []) kq
      ∙ ap (λ l. put u (address_in r) (local_value l q) ∷ []) lx))
      (store-step z n around p p g s t w h (pointed (c_type u) (address_in r)) (as_stored u (local_value (Some a) q)) refl _ (store-keeps s (calls (again_at z n)) z.program g r q w)
      (stores.store-step z.program z.function z.signature h.map (calls (again_at z n)) s t.memory h.between.rel w z.body.scope p g h.between.registers r q y u x a kr e kq lx takes))
