-- Names of static objects.
use Rattle.std.proofs.Common.{◌≡◌, ℕ, Bool, true, false, refl, sym, ◌∙◌, ap, subst, arith, inr}
use Rattle.std.specs.Prelude.{◌+◌, ◌≤◌, ◌<◌, Option, Some, None}
use Rattle.cf_base.specs.World.{World}
use Rattle.cf_core.specs.Types.{Name, SourceType, without_const, same_but_const}
use Rattle.cf_core.specs.Places.{is_reference}
use Rattle.cf_core.specs.Store as source
use Rattle.cf_core.specs.Run.{State, ◌>>=◌, ◌>>◌, gives, malformed, need, some_or, when}
use Rattle.cf_core.specs.Access.{read_place, bound_to, followed}
use Rattle.cf_core.specs.Calls.{root}
use Rattle.cf_core.specs.Objects.{static_number, static_type}
use Rattle.cf_lower_layout.specs.Sorts.{address, sort_to}
use Rattle.cf_lower_layout.proofs.Types.{same-without_const}
use Rattle.cf_plain.specs.Plain as plain
use Rattle.cf_plain.specs.Acts.{Registers, acts}
use Rattle.cf_plain.specs.Running.{calls}
use Rattle.cc_whole.specs.Plain as c_tree
use Rattle.cc_whole.specs.Plain.{load, named}
use Rattle.cc_whole_memory.specs.declared.value.Pointer.TheVariants as pointer
use Rattle.cc_whole_memory.specs.declared.value.Value.TheVariants as value
use Rattle.cc_whole_mean.specs.Flow as c
use Rattle.cc_whole_mean.specs.Values.{value_of, named_address}
use Rattle.cf_lower.specs.Kept.{holds, Keeping, referred}
use Rattle.cf_lower.specs.Expressions.{place_named, as_value}
use Rattle.cf_lower_kept.specs.Ready.{is_code}
use Rattle.cf_lower_kept.proofs.Operands.{address-sort}
use Rattle.cf_lower_steps.specs.Steps.{GivenAs, Step}
use Rattle.cf_lower_turns.specs.Around.{Around, depth_of}
use Rattle.cf_lower_turns.specs.Here.{Here}
use Rattle.cf_lower_turns.specs.Scene.{Scene, fixed_in, again_at}
use Rattle.cf_lower_objects.proofs.Naming.{referred-same, same-reference}
use Rattle.cf_lower_actions.specs.Fits.{Fits, StaticObject}
use Rattle.cf_lower_actions.specs.Given.{Given}

true-false : {b : Bool} → b ≡ true → b ≡ false → ⊥
true-false h k = absurd (cc)

module _ (z : Scene) (fits : Fits z) (around : Around Keeping) (p : Keeping) (name : Name) (y : SourceType) (no_reference : is_reference y ≡ false) (no_code : is_code y ≡ false) where
  module _ (n : ℕ) (g : Registers) (s : State) (t : c.State) (w : World) (h : Here (fixed_in z) z.body p (depth_of around) g s t) where
    -- the object is where it was as the function was entered
    static-there : (o : ℕ) → static_number z.program name ≡ Some o → without_const (static_type z.program name) ≡ without_const y
        → GivenAs (fixed_in z) h.map (holds (address (without_const y))) (source.At (root o)) (value_of (c_tree.address name) z.body.scope t.memory)
    static-there o e same =
        let x = fits.statics name o e in
        record {
          value = value.Address (pointer.At (z.body.start.block o) 0);
          is = ap named_address x.named;
          same = record {
            known = let k = x.known in let c = h.grows.count in omega (arith, k, c);
            visible = h.grows.visible o x.known x.visible;
            inside = refl;
            type = inr (ap without_const (h.grows.type o x.known ∙ x.type) ∙ same);
            pointer = pointer.At (z.body.start.block o) 0;
            some = tt;
            is = refl;
            there = λ k.
                ap (λ b. pointer.At b 0) (sym (h.grows.block o x.known x.visible k))
                ∙ ap (pointer.At (h.map.block o)) (let base = h.grows.base o x.known x.visible k in let none = x.base in let a : 0 ≡ h.map.base o + 0 = omega (arith, base, none) in a);
          };
        }

    static-step : Step (fixed_in z) h.map (acts (calls (again_at z n)) z.program g (plain.static_object name y) s w) s w (holds (address (without_const y)))
        (value_of (c_tree.address name) z.body.scope t.memory)
    static-step = by_number (static_number z.program name) refl
      where
        no-reference : (o : ℕ) → static_number z.program name ≡ Some o → without_const (static_type z.program name) ≡ without_const y → is_reference (s.object o).type ≡ false
        no-reference o e same =
            let x = fits.statics name o e in
            ap is_reference (h.between.rel.type o (let k = x.known in let c = h.grows.count in omega (arith, k, c)) ∙ h.grows.type o x.known ∙ x.type)
            ∙ same-reference (static_type z.program name) y same no_reference

        by_type : (o : ℕ) → static_number z.program name ≡ Some o → (b : Bool) → same_but_const (static_type z.program name) y ≡ b
            → Step (fixed_in z) h.map ((need b 9 >> (some_or (Some o) malformed >>= (λ o. gives (root o))) >>= followed z.program.classes) s w) s w
            (holds (address (without_const y))) (value_of (c_tree.address name) z.body.scope t.memory)
        by_type o e false k = record { by = refl }
        by_type o e true k =
            let same = same-without_const (static_type z.program name) y k in
            subst (λ b. Step (fixed_in z) h.map ((when b (read_place z.program.classes (root o) >>= bound_to) (gives (source.At (root o)))) s w) s w
            (holds (address (without_const y))) (value_of (c_tree.address name) z.body.scope t.memory)) (sym (no-reference o e same))
            (record { by = (refl, refl, static-there o e same) })

        by_number : (x : Option ℕ) → static_number z.program name ≡ x
            → Step (fixed_in z) h.map
            ((((some_or x malformed >>= (λ o. gives (root o))) >> need (same_but_const (static_type z.program name) y) 9)
            >> (some_or x malformed >>= (λ o. gives (root o))) >>= followed z.program.classes) s w) s w
            (holds (address (without_const y))) (value_of (c_tree.address name) z.body.scope t.memory)
        by_number None e = record { by = tt }
        by_number (Some o) e = by_type o e (same_but_const (static_type z.program name) y) refl

  pub static-given : Given z around p (plain.static_object name y)
  static-given = record {
    kept = holds (address (without_const y));
    is = ap (λ u. holds (sort_to u)) (referred-same y no_reference) ∙ ap holds (address-sort y no_code);
    sort = address (without_const y);
    local = refl;
    expression = c_tree.address name;
    no_load = λ m. refl;
    expressed = ap (λ b. elim b as (λ x. c_tree.Expression) [ true ↦ as_value (sort_to (referred y)) (load (named name)) | false ↦ c_tree.address name ]) no_reference;
    assigned = λ r. refl;
    dropped = refl;
    step = static-step;
  }
