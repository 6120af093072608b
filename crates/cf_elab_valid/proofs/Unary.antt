-- Unary operators, ++ and --, subscripts (5.2.1, 5.2.5, 5.3).
use Rattle.std.proofs.Common.{◌≡◌, ℕ, Bool, true, false, ◌&&◌, length, if◌then◌else◌, pos, Option, Some, None, is_some, IsTrue, refl, sym, ap, subst, ◌∙◌, true≢false}
use Rattle.cf_base.specs.declared.kind.Kind.{Kind}
use Rattle.cf_base.specs.declared.kind.Kind.TheVariants as kind
use Rattle.cf_base.specs.declared.arith.Arith.TheVariants as op
use Rattle.cf_base.specs.Integers.{fits}
use Rattle.cf_base.specs.Promotion.{promoted}
use Rattle.cf_types.specs.declared.ty.Ty.{Ty}
use Rattle.cf_types.specs.declared.ty.Ty.TheVariants as ty
use Rattle.cf_convert.specs.Constness.{type_at, bare}
use Rattle.cf_syntax.specs.declared.operator.PrefixOp.{PrefixOp}
use Rattle.cf_syntax.specs.declared.operator.PrefixOp.TheVariants as prefix
use Rattle.cf_syntax.specs.declared.operator.StepOp.{StepOp}
use Rattle.cf_core.specs.declared.node.Change.{Change}
use Rattle.cf_core.specs.declared.node.Core.TheVariants as node
use Rattle.cf_core.specs.FromClasses.{signature_of}
use Rattle.cf_core.specs.Numbers.{are_known}
use Rattle.cf_core.specs.Places.{is_reference as tree_is_reference}
use Rattle.cf_core.specs.Typed.{typing, indexed_type}
use Rattle.cf_core.specs.Types.{SourceType, integer, pointer, without_const, is_void}
use Rattle.cf_core.specs.Typing.{is_right_operand, changes, of_number, points_to_object}
use Rattle.cf_core.specs.View.{change_of}
use Rattle.cf_core_typed.specs.Same.{Same}
use Rattle.cf_core_typed.specs.Meets.{IsPlace, IsValue, Points}
use Rattle.cf_core_typed.proofs.Operators.{arithmetic-changes, pointer-changes}
use Rattle.cf_core_typed.proofs.Places.{address-is, place_at-is, index-is, index-right-is, integer-no-pointer}
use Rattle.cf_core_typed.proofs.Same.{and-both, function-operand, operand-reference}
use Rattle.cf_core_typed.proofs.Values.{place-same, value-same, value-integer, value-points, points-object}
use Rattle.cf_elab.specs.Answer.{Made, Elab, onward, need}
use Rattle.cf_elab.specs.Arithmetic.{negated, complemented, negation}
use Rattle.cf_elab.specs.Complete.{complete}
use Rattle.cf_elab.specs.Env.{Env}
use Rattle.cf_elab.specs.Fit.{to_kind}
use Rattle.cf_elab.specs.Made.{pointer_to}
use Rattle.cf_elab.specs.Operand.{Value, Sort, integral, enumeral, object_pointer, void_pointer, function_pointer, data_pointer, method_pointer, class_sort, array_sort, function_sort, void_sort, reference_sort, is_class, is_reference, sort_of, ty_sort, pointer_sort, arithmetic, computed, place_of, plain}
use Rattle.cf_elab.specs.Members.{class_number}
use Rattle.cf_elab.specs.MethodNode.{unused, object_place}
use Rattle.cf_elab.specs.Unary as row
use Rattle.cf_elab_env.specs.Holds.{without_class}
use Rattle.cf_elab_env.proofs.Bare.{bare_bare}
use Rattle.cf_elab.specs.Unary.{goes_back, step_change}
use Rattle.cf_elab_valid.specs.Answers.{Fine}
use Rattle.cf_elab_valid.specs.Scene.{Scene, IsScene, tree, typed, scope_of, Within, Steps, Inside, Classless, Holds, Fits, IsPlain, Meets, is_allowed}
use Rattle.cf_elab_valid.specs.Sorts.{SortIs, ObjectPointer}
use Rattle.cf_elab_valid.proofs.Arithmetic.{IsOperand, plain-operand, negated-fine, complemented-fine, negation-fine}
use Rattle.cf_elab_valid.proofs.Early.{SortInside, early-bare_is, early-inside, early-known, early-sort-is, early-sort-inside}
use Rattle.cf_elab_valid.proofs.FitRows.{classless-type, to_kind-fine}
use Rattle.cf_elab_valid.proofs.Making.{IsType, pointer_to-fine}
use Rattle.cf_elab_valid.proofs.Nodes.{core-Address, core-Dereference, core-Index, known-Address, known-Dereference, known-Index}
use Rattle.cf_elab_valid.proofs.Options.{some_is}
use Rattle.cf_elab_valid.proofs.Plain.{decayed_tree, plain-fine}
use Rattle.cf_elab_valid.proofs.Trees.{tree-normal}
use Rattle.cf_elab_valid.proofs.Values.{plain-when, plain-value, value-plain, place-fits, place-no-reference, type-tree}
use Rattle.cf_elab_valid.proofs.Ways.{fits-when, fine-as, made-fine, onward-fine, inside-later, within-before, When}

one_fits : (k : Kind) → fits (promoted k) (pos 1) ≡ true
one_fits kind.Char = refl
one_fits kind.SChar = refl
one_fits kind.UChar = refl
one_fits kind.Short = refl
one_fits kind.UShort = refl
one_fits kind.Int = refl
one_fits kind.UInt = refl
one_fits kind.Long = refl
one_fits kind.ULong = refl

-- ---- a value at another place of the text

pub placed-fits : (s : Scene) (x : Value) (at : ℕ) (e : Env) → Fits s e x → Fits s e (record x { at = at })
placed-fits s x at e f = record { inside = f.inside; numbers = f.numbers; allowed = f.allowed; meets = f.meets; number = f.number }

pub placed-plain : (s : Scene) (u : SourceType) (x : Value) (at : ℕ) (e : Env) → IsPlain s u x e → IsPlain s u (record x { at = at }) e
placed-plain s u x at e p = record { fits = placed-fits s x at e p.fits; no_place = p.no_place; same = p.same }

module _ (s : Scene) (scene : IsScene s) where
  -- ---- what is known of a plain value by its sort

  pub plain-own : (t : SourceType) (x : Value) (e : Env) → IsPlain s t x e → IsPlain s (tree s x.type) x e
  plain-own t x e p = record { fits = p.fits; no_place = p.no_place; same = refl }

  module _ (x : Value) (e : Env) (w : Within e s) (p : IsPlain s (tree s x.type) x e) where
    pub sorted : (k : Sort) → sort_of e.types x.type ≡ k → SortIs s.tables k (tree s x.type)
    sorted k is = subst (λ k. SortIs s.tables k (tree s x.type)) is (early-sort-is s.tables scene.table e.types w.types scene.no_class scene.none_to_reference x.type p.fits.inside)

    pub part-inside : (k : Sort) → sort_of e.types x.type ≡ k → SortInside (length e.types.types) k
    part-inside k is = subst (SortInside (length e.types.types)) is (early-sort-inside s.tables scene.table e.types w.types x.type p.fits.inside)

    pub points-to : (t : ℕ) → Same (tree s x.type) (pointer (tree s t)) → Points (typed s x.node) (tree s t)
    points-to t same = value-points (typed s x.node) (tree s t) (value-same (typed s x.node) (tree s x.type) (pointer (tree s t)) same (plain-value s (tree s x.type) x e p))

    pub object-pointed : (t : ℕ) → Inside e t → ObjectPointer s.tables t (tree s x.type) → points_to_object (typed s x.node) ≡ true
    object-pointed t i o =
        points-object (typed s x.node) (tree s t) (tree-normal s.tables scene.table t (early-known s.tables scene.table e.types w.types t i)) o.no_function o.no_void (points-to t o.same)

    dereferenced-fits : (at t : ℕ) (b : Bool) → Inside e t → Same (tree s x.type) (pointer (tree s t)) → is_void (tree s t) ≡ false → tree_is_reference (tree s t) ≡ false → Fits s e (place_of at (node.Dereference at x.node) t b)
    dereferenced-fits at t b i same no_void no_reference =
        place-fits s e at t (node.Dereference at x.node) None b i (known-Dereference s.tables at x.node ∙ p.fits.numbers) no_void no_reference
        (subst (λ c. IsPlace (typing (scope_of s) c) (tree s t)) (sym (core-Dereference s.tables (signature_of s.tables) at x.node)) (place_at-is (scope_of s) (typed s x.node) (tree s t) (points-to t same))) tt

  -- ---- operands that are read first

  pub on_plain-fine : (Q : Value → Env → Type 0) (v : Value) (go : Value → Sort → Elab Value) (e : Env) → Classless e → When s e (Holds s e) → When s e (Fits s e v)
      → ((x : Value) (e1 : Env) → Steps e e1 → Classless e1 → When s e1 (Holds s e1) → When s e1 (IsPlain s (tree s x.type) x e1) → Fine s Q e1 (go x (sort_of e1.types x.type) e1))
      → Fine s Q e (row.on_plain v go e)
  on_plain-fine Q v go e c h f next =
      onward-fine s (IsPlain s (decayed_tree s v.type (sort_of e.types v.type))) Q e (plain v e) _ (plain-fine s scene e v c h f)
      (λ x e1 g d held p. next x e1 g d held (λ w. plain-own (decayed_tree s v.type (sort_of e.types v.type)) x e1 (p w)))

  dereferenced-fine : (at : ℕ) (x : Value) (e : Env) → Classless e → When s e (Holds s e) → When s e (IsPlain s (tree s x.type) x e)
      → (k : Sort) → sort_of e.types x.type ≡ k → Fine s (IsOperand s) e (row.dereferenced at x k e)
  dereferenced-fine at x e c h p (object_pointer t) is =
      made-fine s (IsOperand s) e (place_of at (node.Dereference at x.node) t x.is_fixed) c h
      (λ w. let o = sorted x e w (p w) (object_pointer t) is in dereferenced-fits x e w (p w) at t x.is_fixed (part-inside x e w (p w) (object_pointer t) is) o.same o.no_void o.no_reference)
  dereferenced-fine at x e c h p (function_pointer t) is =
      made-fine s (IsOperand s) e (place_of at (node.Dereference at x.node) t x.is_fixed) c h
      (λ w. let o = sorted x e w (p w) (function_pointer t) is in dereferenced-fits x e w (p w) at t x.is_fixed (part-inside x e w (p w) (function_pointer t) is) o.same (function-operand (tree s t) o.function).2 (function-operand (tree s t) o.function).1)
  dereferenced-fine at x e c h p k is = tt

  -- a pointer to a place
  pub address_of-fine : (at : ℕ) (v : Value) (e : Env) → Classless e → When s e (Holds s e) → When s e (Fits s e v) → Fine s (IsOperand s) e (row.address_of at v e)
  address_of-fine at v e c h f = by v.is_lvalue refl
    where
      value_of : ℕ → Value
      value_of t = record (computed at (node.Address at v.node) t) { is_fixed = v.is_fixed }

      pointed : (t : ℕ) (e1 : Env) → Within e1 s → IsPlace (typed s v.node) (tree s v.type) → are_known s.tables v.node ≡ true → IsType (ty.Ptr v.type) t e1
          → IsPlain s (pointer (tree s v.type)) (record (computed at (node.Address at v.node) t) { is_fixed = v.is_fixed }) e1
      pointed t e1 w place known is =
          value-plain s e1 (pointer (tree s v.type)) at t (node.Address at v.node) None v.is_fixed is.inside (ap without_const (type-tree s scene e1 (ty.Ptr v.type) t w is)) (known-Address s.tables at v.node ∙ known) refl
          (subst (λ c. IsValue (typing (scope_of s) c) (pointer (tree s v.type))) (sym (core-Address s.tables (signature_of s.tables) at v.node)) (address-is (scope_of s) (typed s v.node) (tree s v.type) place)) tt

      by : (b : Bool) → v.is_lvalue ≡ b → Fine s (IsOperand s) e (onward (need b 12 at e) (λ _ f. onward (pointer_to v.type f) (λ t g. Made (value_of t) g)))
      by false l = tt
      by true l =
          onward-fine s (IsType (ty.Ptr v.type)) (IsOperand s) e (pointer_to v.type e) (λ t g. Made (value_of t) g) (pointer_to-fine s v.type e c h)
          (λ t e1 g d held is. made-fine s (IsOperand s) e1 (value_of t) d held
          (λ w. let early = f (within-before e e1 s g w) in
          plain-operand s (pointer (tree s v.type)) (value_of t) e1 (pointed t e1 w (subst (λ b. Meets b (typed s v.node) (tree s v.type)) l early.meets) early.numbers (is w))))

  -- + of a pointer is the pointer, at the operator
  promoted-fine : (at : ℕ) (x : Value) (e : Env) → Classless e → When s e (Holds s e) → When s e (IsPlain s (tree s x.type) x e)
      → (k : Sort) (o : Option Kind) → Fine s (IsOperand s) e (row.promoted_or_pointer at x k o e)
  promoted-fine at x e c h p k (Some l) = fine-as s (IsPlain s (integer l)) (IsOperand s) e (to_kind l x e) (λ v f q. plain-operand s (integer l) v f q) (to_kind-fine s scene l x e c h (λ w. (p w).fits))
  promoted-fine at x e c h p (object_pointer t) None = made-fine s (IsOperand s) e x c h (λ w. (p w).fits)
  promoted-fine at x e c h p void_pointer None = made-fine s (IsOperand s) e x c h (λ w. (p w).fits)
  promoted-fine at x e c h p (function_pointer t) None = made-fine s (IsOperand s) e x c h (λ w. (p w).fits)
  promoted-fine at x e c h p k None = tt

  of_integer-fine : (at : ℕ) (make : ℕ → Kind → Value → Elab Value) (x : Value) (e : Env) (o : Option Kind) → ((k : Kind) → Fine s (IsPlain s (integer k)) e (make at k x e))
      → Fine s (IsOperand s) e (row.of_integer at make x o e)
  of_integer-fine at make x e None f = tt
  of_integer-fine at make x e (Some k) f = fine-as s (IsPlain s (integer k)) (IsOperand s) e (make at k x e) (λ v b q. plain-operand s (integer k) v b q) (f k)

  -- of an operand that is no class object
  pub prefixed-fine : (at : ℕ) (o : PrefixOp) (v : Value) (e : Env) → Classless e → When s e (Holds s e) → When s e (Fits s e v) → Fine s (IsOperand s) e (row.prefixed at o v e)
  prefixed-fine at prefix.Dereference v e c h f =
      on_plain-fine (IsOperand s) v (row.dereferenced at) e c h f (λ x e1 g d held p. dereferenced-fine at x e1 d held p (sort_of e1.types x.type) refl)
  prefixed-fine at prefix.AddressOf v e c h f = address_of-fine at v e c h f
  prefixed-fine at prefix.Plus v e c h f =
      on_plain-fine (IsOperand s) v (λ x k. row.promoted_or_pointer at (record x { at = at }) k (arithmetic k)) e c h f
      (λ x e1 g d held p. promoted-fine at (record x { at = at }) e1 d held (λ w. placed-plain s (tree s x.type) x at e1 (p w)) (sort_of e1.types x.type) (arithmetic (sort_of e1.types x.type)))
  prefixed-fine at prefix.Minus v e c h f =
      on_plain-fine (IsOperand s) v (λ x k. row.of_integer at negated x (arithmetic k)) e c h f
      (λ x e1 g d held p. of_integer-fine at negated x e1 (arithmetic (sort_of e1.types x.type)) (λ k. negated-fine s scene at k x e1 d held (λ w. (p w).fits)))
  prefixed-fine at prefix.Complement v e c h f =
      on_plain-fine (IsOperand s) v (λ x k. row.of_integer at complemented x (arithmetic k)) e c h f
      (λ x e1 g d held p. of_integer-fine at complemented x e1 (arithmetic (sort_of e1.types x.type)) (λ k. complemented-fine s scene at k x e1 d held (λ w. (p w).fits)))
  prefixed-fine at prefix.Not v e c h f = fine-as s (IsPlain s (integer kind.Int)) (IsOperand s) e (negation at v e) (λ x b q. plain-operand s (integer kind.Int) x b q) (negation-fine s scene at v e c h f)

  -- ---- subscripts

  element_fits : (at t : ℕ) (b : Bool) (x y : Value) (e : Env) → Within e s → Inside e t → is_void (tree s t) ≡ false → tree_is_reference (tree s t) ≡ false → are_known s.tables x.node ≡ true → are_known s.tables y.node ≡ true
      → IsPlace (indexed_type (scope_of s) (typed s x.node) (typed s y.node)) (tree s t) → Fits s e (place_of at (node.Index at x.node y.node) t b)
  element_fits at t b x y e w i no_void no_reference p q place =
      place-fits s e at t (node.Index at x.node y.node) None b i (known-Index s.tables at x.node y.node ∙ and-both (are_known s.tables x.node) (are_known s.tables y.node) p q) no_void no_reference
      (subst (λ c. IsPlace (typing (scope_of s) c) (tree s t)) (sym (core-Index s.tables (signature_of s.tables) at x.node y.node)) place) tt

  element_of-fine : (at t : ℕ) (b : Bool) (x y : Value) (e : Env) → Classless e → When s e (Holds s e) → When s e (Fits s e (place_of at (node.Index at x.node y.node) t b)) → Fine s (IsOperand s) e (row.element_of at t b x y e)
  element_of-fine at t b x y e c h f = by (complete e t)
    where
      by : (m : Bool) → Fine s (IsOperand s) e (onward (need m 30 at e) (λ _ g. Made (place_of at (node.Index at x.node y.node) t b) g))
      by false = tt
      by true = made-fine s (IsOperand s) e (place_of at (node.Index at x.node y.node) t b) c h f

  indexed-fine : (at : ℕ) (x y : Value) (e : Env) → Classless e → When s e (Holds s e) → When s e (IsPlain s (tree s x.type) x e) → When s e (IsPlain s (tree s y.type) y e)
      → (k l : Sort) (a b : Option Kind) → sort_of e.types x.type ≡ k → sort_of e.types y.type ≡ l → Fine s (IsOperand s) e (row.indexed at x y k l a b e)
  indexed-fine at x y e c h p q (object_pointer t) l None (Some k) is js =
      onward-fine s (IsPlain s (integer k)) (IsOperand s) e (to_kind k y e) _ (to_kind-fine s scene k y e c h (λ w. (q w).fits))
      (λ i e1 g d held r. element_of-fine at t (x.is_fixed && is_some i.number) x i e1 d held
      (λ w. let early = within-before e e1 s g w in
      let o = sorted x e early (p early) (object_pointer t) is in
      let inside = part-inside x e early (p early) (object_pointer t) is in
      element_fits at t (x.is_fixed && is_some i.number) x i e1 w (inside-later e e1 t g inside) o.no_void o.no_reference (p early).fits.numbers (r w).fits.numbers
      (index-is (scope_of s) (typed s x.node) (typed s i.node) (tree s t) (object-pointed x e early (p early) t inside o) (points-to x e early (p early) t o.same)
      (value-integer (typed s i.node) (integer k) refl (plain-value s (integer k) i e1 (r w))))))
  indexed-fine at x y e c h p q k (object_pointer t) (Some l) None is js =
      onward-fine s (IsPlain s (integer l)) (IsOperand s) e (to_kind l x e) _ (to_kind-fine s scene l x e c h (λ w. (p w).fits))
      (λ i e1 g d held r. element_of-fine at t (y.is_fixed && is_some i.number) i y e1 d held
      (λ w. let early = within-before e e1 s g w in
      let o = sorted y e early (q early) (object_pointer t) js in
      let inside = part-inside y e early (q early) (object_pointer t) js in
      let value = plain-value s (integer l) i e1 (r w) in
      element_fits at t (y.is_fixed && is_some i.number) i y e1 w (inside-later e e1 t g inside) o.no_void o.no_reference (r w).fits.numbers (q early).fits.numbers
      (index-right-is (scope_of s) (typed s i.node) (typed s y.node) (tree s t) (integer-no-pointer (typed s i.node) (integer l) refl value) (value-integer (typed s i.node) (integer l) refl value)
      (object-pointed y e early (q early) t inside o) (points-to y e early (q early) t o.same))))
  indexed-fine at x y e c h p q k l a b is js = tt

  pub subscript-fine : (at : ℕ) (x y : Value) (e : Env) → Classless e → When s e (Holds s e) → When s e (Fits s e x) → When s e (Fits s e y) → Fine s (IsOperand s) e (row.subscript at x y e)
  subscript-fine at x y e c h f g =
      onward-fine s (IsPlain s (decayed_tree s x.type (sort_of e.types x.type))) (IsOperand s) e (plain x e) _ (plain-fine s scene e x c h f)
      (λ a e1 g1 c1 h1 p. onward-fine s (IsPlain s (decayed_tree s y.type (sort_of e1.types y.type))) (IsOperand s) e1 (plain y e1) _ (plain-fine s scene e1 y c1 h1 (fits-when s e e1 y g1 g))
      (λ b e2 g2 c2 h2 q. indexed-fine at a b e2 c2 h2 (plain-when s (tree s a.type) e1 e2 a g2 (λ w. plain-own (decayed_tree s x.type (sort_of e.types x.type)) a e1 (p w)))
      (λ w. plain-own (decayed_tree s y.type (sort_of e1.types y.type)) b e2 (q w)) (sort_of e2.types a.type) (sort_of e2.types b.type) (arithmetic (sort_of e2.types a.type)) (arithmetic (sort_of e2.types b.type)) refl refl))

  -- ---- ++ and --

  pub changed_place : (k : Sort) (o : StepOp) (v : Value) (e : Env) (w : Within e s) → sort_of e.types v.type ≡ k → Fits s e v → (ch : Change) → step_change o k ≡ Some ch → IsPlace (typed s v.node) (tree s v.type)
      → changes (change_of ch) (typed s v.node).place (of_number (pos 1)) ≡ true
  changed_place (integral k) o v e w is f ch found place =
      let is_tree = subst (λ k. SortIs s.tables k (tree s v.type)) is (early-sort-is s.tables scene.table e.types w.types scene.no_class scene.none_to_reference v.type f.inside) in
      subst (λ c. changes (change_of c) (typed s v.node).place (of_number (pos 1)) ≡ true) (some_is _ ch found)
      (arithmetic-changes (if goes_back o then op.Subtract else op.Add) (promoted k) k (typed s v.node) (of_number (pos 1)) (right (goes_back o)) (place-same (typed s v.node) (tree s v.type) (integer k) is_tree place))
    where
      right : (b : Bool) → is_right_operand (if b then op.Subtract else op.Add) (promoted k) (of_number (pos 1)) ≡ true
      right true = one_fits k
      right false = one_fits k
  changed_place (object_pointer t) o v e w is f ch found place =
      let p = subst (λ k. SortIs s.tables k (tree s v.type)) is (early-sort-is s.tables scene.table e.types w.types scene.no_class scene.none_to_reference v.type f.inside) in
      let inside = subst (SortInside (length e.types.types)) is (early-sort-inside s.tables scene.table e.types w.types v.type f.inside) in
      subst (λ c. changes (change_of c) (typed s v.node).place (of_number (pos 1)) ≡ true) (some_is _ ch found)
      (pointer-changes (goes_back o) (tree s t) (typed s v.node) (of_number (pos 1)) (tree-normal s.tables scene.table t (early-known s.tables scene.table e.types w.types t inside)) p.no_function p.no_void refl
      (place-same (typed s v.node) (tree s v.type) (pointer (tree s t)) p.same place))
  changed_place k o v e w is f ch found place = absurd cc

no_number : (k : Sort) → is_class k ≡ false → class_number k ≡ None
no_number (class_sort d) h = absurd (true≢false h)
no_number k h = refl

pointer_no_class : (p : ℕ) (v : Ty) → is_class (pointer_sort p v) ≡ false
pointer_no_class p ty.Void = refl
pointer_no_class p (ty.Int k) = refl
pointer_no_class p (ty.Enum k) = refl
pointer_no_class p (ty.Class k) = refl
pointer_no_class p (ty.Ptr k) = refl
pointer_no_class p (ty.Ref k) = refl
pointer_no_class p (ty.Array k n) = refl
pointer_no_class p (ty.Fun k) = refl
pointer_no_class p (ty.MemData k n) = refl
pointer_no_class p (ty.MemFun k n) = refl
pointer_no_class p (ty.Const k) = refl

-- no value is a class object
pub classless-sort : (e : Env) → Classless e → (t : ℕ) → is_class (sort_of e.types t) ≡ false
classless-sort e c t = by (type_at e.types (bare e.types t)) (classless-type e.types c.no_type (bare e.types t))
  where
    by : (v : Ty) → IsTrue (without_class v) → is_class (ty_sort e.types v) ≡ false
    by (ty.Class k) h = absurd (true≢false (sym h))
    by (ty.MemData k n) h = absurd (true≢false (sym h))
    by (ty.MemFun k n) h = absurd (true≢false (sym h))
    by (ty.Ptr p) h = pointer_no_class p (type_at e.types (bare e.types p))
    by ty.Void h = refl
    by (ty.Int k) h = refl
    by (ty.Enum k) h = refl
    by (ty.Ref k) h = refl
    by (ty.Array k n) h = refl
    by (ty.Fun k) h = refl
    by (ty.Const k) h = refl

pub classless-number : (e : Env) → Classless e → (t : ℕ) → class_number (sort_of e.types t) ≡ None
classless-number e c t = no_number (sort_of e.types t) (classless-sort e c t)

-- a value that nothing takes is its node
pub unused-node : (e : Env) → Classless e → (v : Value) → unused e v ≡ v.node
unused-node e c v = ap (λ b. if b then (object_place v).node else v.node) (classless-sort e c v.type)

-- no value is of a reference type
module _ (s : Scene) (scene : IsScene s) (e : Env) (w : Within e s) (v : Value) (f : Fits s e v) where
  tree_no_reference : (b : Bool) → is_allowed b (tree s v.type) ≡ true → tree_is_reference (tree s v.type) ≡ false
  tree_no_reference true a = place-no-reference true (tree s v.type) refl a
  tree_no_reference false a = operand-reference (tree s v.type) a

  sort_no_reference : (k : Sort) → SortIs s.tables k (tree s v.type) → is_reference k ≡ false
  sort_no_reference (reference_sort t) is = absurd (true≢false (sym (ap tree_is_reference is.same) ∙ tree_no_reference v.is_lvalue f.allowed))
  sort_no_reference (integral k) is = refl
  sort_no_reference (enumeral k) is = refl
  sort_no_reference (object_pointer t) is = refl
  sort_no_reference void_pointer is = refl
  sort_no_reference (function_pointer t) is = refl
  sort_no_reference (data_pointer k t) is = refl
  sort_no_reference (method_pointer k t) is = refl
  sort_no_reference (class_sort k) is = refl
  sort_no_reference (array_sort t n) is = refl
  sort_no_reference (function_sort g) is = refl
  sort_no_reference void_sort is = refl

  pub no-reference : is_reference (sort_of e.types v.type) ≡ false
  no-reference = sort_no_reference (sort_of e.types v.type) (early-sort-is s.tables scene.table e.types w.types scene.no_class scene.none_to_reference v.type f.inside)

  pub no-reference-type : (u : ℕ) → type_at e.types v.type ≡ ty.Ref u → ⊥
  no-reference-type u h =
      let own : bare e.types v.type ≡ v.type = rw h refl in
      true≢false (sym (ap is_reference (ap (ty_sort e.types) (ap (type_at e.types) own ∙ h))) ∙ no-reference)

-- ---- a type without its own const

module _ (s : Scene) (scene : IsScene s) (e : Env) (w : Within e s) (t : ℕ) (i : Inside e t) where
  pub bare_once : bare e.types (bare e.types t) ≡ bare e.types t
  bare_once =
      sym (early-bare_is s.tables scene.table e.types w.types (bare e.types t) (early-inside s.tables scene.table e.types w.types t i)) ∙ ap (bare s.tables.types) (sym (early-bare_is s.tables scene.table e.types w.types t i))
      ∙ bare_bare s.tables.types scene.table t (early-known s.tables scene.table e.types w.types t i) ∙ early-bare_is s.tables scene.table e.types w.types t i

  -- it has the same sort
  pub bare_sort : sort_of e.types (bare e.types t) ≡ sort_of e.types t
  bare_sort = ap (λ b. ty_sort e.types (type_at e.types b)) bare_once
