-- The value of an lvalue, and of an array or a function the pointer (4.1, 4.6).
use Rattle.std.proofs.Common.{◌≡◌, ℕ, Bool, true, false, not, ◌||◌, if◌then◌else◌, ℤ, Option, None, Some, slice_get, refl, sym, ap, subst, ◌∙◌, true≢false}
use Rattle.std.specs.Option.{option_map_or}
use Rattle.cf_types.specs.declared.ty.Ty.TheVariants as ty
use Rattle.cf_convert.specs.Constness.{bare}
use Rattle.cf_core.specs.declared.node.Core.{Core as Node}
use Rattle.cf_core.specs.declared.node.Core.TheVariants as node
use Rattle.cf_core.specs.FromClasses.{signature_of}
use Rattle.cf_core.specs.FromTypes.{Tables}
use Rattle.cf_core.specs.Numbers.{are_known}
use Rattle.cf_core.specs.Places.{is_reference}
use Rattle.cf_core.specs.Typed.{typing, decayed_type}
use Rattle.cf_core.specs.Types.{SourceType, integer, enumeration, pointer, array, without_const, is_void}
use Rattle.cf_core_typed.specs.Same.{Same, is_operand}
use Rattle.cf_core_typed.specs.Meets.{IsPlace, IsValue}
use Rattle.cf_core_typed.proofs.Same.{same-operand, operand-scalar, function-operand}
use Rattle.cf_core_typed.proofs.Places.{read-is, decay-array-is, decay-function-is}
use Rattle.cf_core_typed.proofs.Values.{place-same, value-same, of_number-is}
use Rattle.cf_elab.specs.Env.{Env}
use Rattle.cf_elab.specs.Answer.{Answer, Made, Refused, Passed}
use Rattle.cf_elab.specs.Made.{pointer_to}
use Rattle.cf_elab.specs.Operand.{Value, Sort, sort_of, integral, enumeral, object_pointer, void_pointer, function_pointer, data_pointer, method_pointer, class_sort, array_sort, function_sort, void_sort, reference_sort, read_node, read_value, decayed, plain_sort, plain}
use Rattle.cf_elab_valid.specs.Answers.{Fine}
use Rattle.cf_elab_valid.specs.Scene.{Scene, IsScene, tree, typed, scope_of, Within, Classless, Holds, HoldsKnown, Fits, IsPlain, Meets, is_allowed}
use Rattle.cf_elab_valid.specs.Sorts.{SortIs, Elements}
use Rattle.cf_elab_valid.proofs.Early.{early-bare, early-inside, early-known, early-sort-is}
use Rattle.cf_elab_valid.proofs.Making.{IsType, pointer_to-fine}
use Rattle.cf_elab_valid.proofs.Nodes.{core-Number, core-Read, core-Decay, known-Number, known-Read, known-Decay}
use Rattle.cf_elab_valid.proofs.Numbers.{holds-same, no-number}
use Rattle.cf_elab_valid.proofs.Trees.{tree-at, tree-normal}
use Rattle.cf_elab_valid.proofs.Values.{value-plain}
use Rattle.cf_elab_valid.proofs.Ways.{begins-get, made-fine, onward-fine, fits-when, within-before, When}

-- what a type becomes: an array and a function a pointer
abbrev pub decayed_tree : Scene → ℕ → Sort → SourceType
decayed_tree s t (array_sort u n) = pointer (tree s u)
decayed_tree s t (function_sort f) = pointer (tree s t)
decayed_tree s t other = tree s t

no_array : (u : SourceType) (t : SourceType) (n : ℕ) → Same u (array t n) → is_operand u ≡ false
no_array u t n e = same-operand u (array t n) e

-- whether a value of the sort is read as it is
abbrev pub is_plain_sort : Sort → Bool
is_plain_sort (array_sort t n) = false
is_plain_sort (function_sort f) = false
is_plain_sort (class_sort c) = false
is_plain_sort other = true

-- a value of one type is one of another that is the same but for const
pub plain-as : (s : Scene) (t u : SourceType) (e : Env) (r : Answer Value) → When s e (Same t u) → Fine s (IsPlain s t) e r → Fine s (IsPlain s u) e r
plain-as s t u e (Made v b) same g = record {
  steps = g.steps;
  classless = g.classless;
  holds = g.holds;
  made = λ w. let p = g.made w in record { fits = p.fits; no_place = p.no_place; same = p.same ∙ same (within-before e b s g.steps w) };
}
plain-as s t u e (Refused rule at) same g = tt
plain-as s t u e (Passed bound most) same g = tt

module _ (s : Scene) (scene : IsScene s) where
  abbrev T : Tables
  T = s.tables

  -- ---- values that are read

  -- what is read as it is, is an operand
  sort-operand : (k : Sort) (u : SourceType) (b : Bool) → SortIs T k u → is_plain_sort k ≡ true → is_allowed b u ≡ true → is_operand u ≡ true
  sort-operand (integral k) u b h p a = same-operand u (integer k) h
  sort-operand (enumeral e) u b h p a = same-operand u (enumeration h.name) h.same
  sort-operand (object_pointer t) u b h p a = same-operand u (pointer (tree s t)) h.same
  sort-operand void_pointer u b h p a = same-operand u (pointer (tree s h.pointee)) h.same
  sort-operand (function_pointer t) u b h p a = same-operand u (pointer (tree s t)) h.same
  sort-operand void_sort u true h p a = absurd (true≢false (sym (sym (ap (λ x. not (x || is_reference u)) h) ∙ a)))
  sort-operand void_sort u false h p a = a
  sort-operand (reference_sort t) u true h p a = absurd (true≢false (sym (sym (ap (λ x. not (is_void x || is_reference x)) h.same) ∙ a)))
  sort-operand (reference_sort t) u false h p a = a
  sort-operand (data_pointer c t) u b h p a = absurd h
  sort-operand (method_pointer c f) u b h p a = absurd h
  sort-operand (class_sort c) u b h p a = absurd (true≢false (sym p))
  sort-operand (array_sort t n) u b h p a = absurd (true≢false (sym p))
  sort-operand (function_sort f) u b h p a = absurd (true≢false (sym p))

  place_no_void : (u : SourceType) → is_allowed true u ≡ true → is_void u ≡ false
  place_no_void u a = by (is_void u) a
    where
      by : (x : Bool) → not (x || is_reference u) ≡ true → x ≡ false
      by true a = absurd (true≢false (sym a))
      by false a = refl

  module _ (e : Env) (w : Within e s) where
    pub read-fits : (v : Value) → is_plain_sort (sort_of e.types v.type) ≡ true → Fits s e v → IsPlain s (tree s v.type) (read_value e.types v) e
    read-fits v p f = by v.is_lvalue refl
      where
        operand : is_operand (tree s v.type) ≡ true
        operand = sort-operand (sort_of e.types v.type) (tree s v.type) v.is_lvalue (early-sort-is s.tables scene.table e.types w.types scene.no_class scene.none_to_reference v.type f.inside) p f.allowed

        back : Same (tree s v.type) (tree s (bare e.types v.type))
        back = early-bare s.tables scene.table e.types w.types v.type f.inside

        bare_scalar : is_allowed false (tree s (bare e.types v.type)) ≡ true
        bare_scalar = sym (same-operand (tree s v.type) (tree s (bare e.types v.type)) back) ∙ operand

        -- a known number stands for itself
        node_by : Option ℤ → Node
        node_by z = option_map_or (λ n. node.Number v.at n) z (node.Read v.at v.node)

        known_read : (z : Option ℤ) → are_known s.tables (node_by z) ≡ true
        known_read None = known-Read s.tables v.at v.node ∙ f.numbers
        known_read (Some n) = known-Number s.tables v.at n

        value_read : IsPlace (typed s v.node) (tree s v.type) → is_void (tree s v.type) ≡ false → (z : Option ℤ) → HoldsKnown z (tree s v.type) → IsValue (typed s (node_by z)) (tree s v.type)
        value_read place no_void None h =
            subst (λ c. IsValue (typing (scope_of s) c) (tree s v.type)) (sym (core-Read s.tables (signature_of s.tables) v.at v.node))
            (read-is (scope_of s) (typed s v.node) (tree s v.type) (operand-scalar (tree s v.type) operand no_void) place)
        value_read place no_void (Some n) h =
            subst (λ c. IsValue (typing (scope_of s) c) (tree s v.type)) (sym (core-Number s.tables (signature_of s.tables) v.at n)) (of_number-is n (tree s v.type) h)

        by : (b : Bool) → v.is_lvalue ≡ b
            → IsPlain s (tree s v.type)
            (if b then record v { node = read_node v; type = bare e.types v.type; is_lvalue = false; is_fixed = false } else record v { type = bare e.types v.type }) e
        by true l =
            let place = subst (λ b. Meets b (typed s v.node) (tree s v.type)) l f.meets in
            value-plain s e (tree s v.type) v.at (bare e.types v.type) (read_node v) v.number false (early-inside s.tables scene.table e.types w.types v.type f.inside) (sym back)
            (known_read v.number) operand (value_read place (place_no_void (tree s v.type) (subst (λ b. is_allowed b (tree s v.type) ≡ true) l f.allowed)) v.number f.number) f.number
        by false l =
            let value : IsValue (typed s v.node) (tree s v.type) = subst (λ b. Meets b (typed s v.node) (tree s v.type)) l f.meets in record {
              fits = record {
                inside = early-inside s.tables scene.table e.types w.types v.type f.inside;
                numbers = f.numbers;
                allowed = subst (λ b. is_allowed b (tree s (bare e.types v.type)) ≡ true) (sym l) bare_scalar;
                meets = subst (λ b. Meets b (typed s v.node) (tree s (bare e.types v.type))) (sym l) (value-same (typed s v.node) (tree s v.type) (tree s (bare e.types v.type)) back value);
                number = holds-same v.number (tree s v.type) (tree s (bare e.types v.type)) back f.number;
              };
              no_place = l;
              same = sym back;
            }

  -- ---- the row

  module _ (e : Env) (v : Value) (c : Classless e) (h : When s e (Holds s e)) (f : When s e (Fits s e v)) where
    abbrev k : Sort
    k = sort_of e.types v.type

    abbrev sort_of_it : Within e s → SortIs s.tables (sort_of e.types v.type) (tree s v.type)
    sort_of_it w = early-sort-is s.tables scene.table e.types w.types scene.no_class scene.none_to_reference v.type (f w).inside

    -- a pointer to it
    decay-fits : (u p : ℕ) (e1 : Env) → Within e1 s → is_operand (tree s v.type) ≡ false → Fits s e1 v → IsType (ty.Ptr u) p e1 → IsValue (decayed_type (scope_of s) (typed s v.node).place) (pointer (tree s u))
        → IsPlain s (pointer (tree s u)) (record v { node = node.Decay v.at v.node; type = p; is_lvalue = false }) e1
    decay-fits u p e1 w apart g t value =
        let at : slice_get s.tables.types.types p ≡ Some (ty.Ptr u) = begins-get e1.types.types s.tables.types.types p (ty.Ptr u) w.types t.here in
        let is : tree s p ≡ pointer (tree s u) = tree-at s.tables scene.table p (ty.Ptr u) at in record {
          fits = record {
            inside = t.inside;
            numbers = known-Decay s.tables v.at v.node ∙ g.numbers;
            allowed = ap (is_allowed false) is;
            meets = subst (λ c. IsValue (typing (scope_of s) c) (tree s p)) (sym (core-Decay s.tables (signature_of s.tables) v.at v.node))
                (subst (λ x. IsValue (decayed_type (scope_of s) (typed s v.node).place) x) (sym is) value);
            number = no-number v.number (tree s v.type) (tree s p) apart g.number;
          };
          no_place = refl;
          same = ap without_const is;
        }

    place_if : (b : Bool) → is_operand (tree s v.type) ≡ false → is_allowed b (tree s v.type) ≡ true → Meets b (typed s v.node) (tree s v.type) → IsPlace (typed s v.node) (tree s v.type)
    place_if true n a m = m
    place_if false n a m = absurd (true≢false (sym a ∙ n))

    decay-fine : (u : ℕ) → When s e (is_operand (tree s v.type) ≡ false) → (When s e (IsValue (decayed_type (scope_of s) (typed s v.node).place) (pointer (tree s u)))) → Fine s (IsPlain s (pointer (tree s u))) e (decayed v u e)
    decay-fine u apart value =
        onward-fine s (IsType (ty.Ptr u)) (IsPlain s (pointer (tree s u))) e (pointer_to u e) (λ p e1. Made (record v { node = node.Decay v.at v.node; type = p; is_lvalue = false }) e1)
        (pointer_to-fine s u e c h)
        (λ p e1 g plain held t. made-fine s (IsPlain s (pointer (tree s u))) e1 (record v { node = node.Decay v.at v.node; type = p; is_lvalue = false }) plain held
        (λ w. decay-fits u p e1 w (apart (within-before e e1 s g w)) (fits-when s e e1 v g f w) (t w) (value (within-before e e1 s g w))))

    plain-sorted : (k : Sort) → sort_of e.types v.type ≡ k → Fine s (IsPlain s (decayed_tree s v.type k)) e (plain_sort e.types v k e)
    plain-sorted (array_sort t n) is =
        decay-fine t
        (λ w. let x : Elements s.tables t n (tree s v.type) = subst (λ k. SortIs s.tables k (tree s v.type)) is (sort_of_it w) in no_array (tree s v.type) (tree s t) n x.same)
        (λ w. let x = subst (λ k. SortIs s.tables k (tree s v.type)) is (sort_of_it w) in
        let place = place_if v.is_lvalue (no_array (tree s v.type) (tree s t) n x.same) (f w).allowed (f w).meets in
        decay-array-is (scope_of s) (typed s v.node) (tree s t) n (place-same (typed s v.node) (tree s v.type) (array (tree s t) n) x.same place))
    plain-sorted (function_sort g) is =
        plain-as s (pointer (tree s (bare e.types v.type))) (pointer (tree s v.type)) e (decayed v (bare e.types v.type) e)
        (λ w. ap (λ x. pointer x) (sym (early-bare s.tables scene.table e.types w.types v.type (f w).inside)))
        (decay-fine (bare e.types v.type) (λ w. (function-operand (tree s v.type) (subst (λ k. SortIs s.tables k (tree s v.type)) is (sort_of_it w))).0)
        (λ w. let x = subst (λ k. SortIs s.tables k (tree s v.type)) is (sort_of_it w) in
        let same = early-bare s.tables scene.table e.types w.types v.type (f w).inside in
        let place = place_if v.is_lvalue (function-operand (tree s v.type) x).0 (f w).allowed (f w).meets in
        value-same (decayed_type (scope_of s) (typed s v.node).place) (pointer (tree s v.type)) (pointer (tree s (bare e.types v.type))) (ap (λ x. pointer x) same)
        (decay-function-is (scope_of s) (typed s v.node) (tree s v.type) (tree-normal s.tables scene.table v.type (early-known s.tables scene.table e.types w.types v.type (f w).inside)) x place)))
    plain-sorted (class_sort d) is = made-fine s (IsPlain s (tree s v.type)) e v c h (λ w. absurd (subst (λ k. SortIs s.tables k (tree s v.type)) is (sort_of_it w)))
    plain-sorted (integral k) is = made-fine s (IsPlain s (tree s v.type)) e (read_value e.types v) c h (λ w. read-fits e w v (ap is_plain_sort is) (f w))
    plain-sorted (enumeral k) is = made-fine s (IsPlain s (tree s v.type)) e (read_value e.types v) c h (λ w. read-fits e w v (ap is_plain_sort is) (f w))
    plain-sorted (object_pointer t) is = made-fine s (IsPlain s (tree s v.type)) e (read_value e.types v) c h (λ w. read-fits e w v (ap is_plain_sort is) (f w))
    plain-sorted void_pointer is = made-fine s (IsPlain s (tree s v.type)) e (read_value e.types v) c h (λ w. read-fits e w v (ap is_plain_sort is) (f w))
    plain-sorted (function_pointer t) is = made-fine s (IsPlain s (tree s v.type)) e (read_value e.types v) c h (λ w. read-fits e w v (ap is_plain_sort is) (f w))
    plain-sorted (data_pointer d t) is = made-fine s (IsPlain s (tree s v.type)) e (read_value e.types v) c h (λ w. read-fits e w v (ap is_plain_sort is) (f w))
    plain-sorted (method_pointer d g) is = made-fine s (IsPlain s (tree s v.type)) e (read_value e.types v) c h (λ w. read-fits e w v (ap is_plain_sort is) (f w))
    plain-sorted void_sort is = made-fine s (IsPlain s (tree s v.type)) e (read_value e.types v) c h (λ w. read-fits e w v (ap is_plain_sort is) (f w))
    plain-sorted (reference_sort t) is = made-fine s (IsPlain s (tree s v.type)) e (read_value e.types v) c h (λ w. read-fits e w v (ap is_plain_sort is) (f w))

    -- the value as operators take it
    pub plain-fine : Fine s (IsPlain s (decayed_tree s v.type (sort_of e.types v.type))) e (plain v e)
    plain-fine = plain-sorted (sort_of e.types v.type) refl
