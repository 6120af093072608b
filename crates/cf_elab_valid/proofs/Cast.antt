-- Casts, and types with arguments, for types that are no classes (5.2.3, 5.4).
use Rattle.std.proofs.Common.{◌≡◌, ℕ, ◌==◌, Bool, true, false, not, ◌&&◌, ◌||◌, length, if◌then◌else◌, [], ◌∷◌, ℤ, Option, None, refl, sym, ap, subst, ◌∙◌, true≢false}
use Rattle.std.specs.Option.{option_map}
use Rattle.std.proofs.lemmas.Bool.{eqb-true}
use Rattle.cf_base.specs.declared.kind.Kind.TheVariants as kind
use Rattle.cf_base.specs.Integers.{convert}
use Rattle.cf_classes.specs.LinkName.{scope_code, enum_names}
use Rattle.cf_convert.specs.declared.conv.ConvStep.TheVariants.{Null}
use Rattle.cf_convert.specs.Constness.{bare}
use Rattle.cf_core.specs.declared.node.Core.TheVariants as node
use Rattle.cf_core.specs.FromClasses.{signature_of}
use Rattle.cf_core.specs.Numbers.{are_known, has_type}
use Rattle.cf_core.specs.Places.{is_reference as tree_is_reference}
use Rattle.cf_core.specs.Typed as typed_row
use Rattle.cf_core.specs.Typed.{typing}
use Rattle.cf_core.specs.Types.{SourceType, void, enumeration, pointer, const, plain, without_const, same_but_const, is_void}
use Rattle.cf_core.specs.Typing.{allowed, is_integral, of_value, pointed, converts}
use Rattle.cf_core_typed.specs.Same.{Same, is_bare, is_normal}
use Rattle.cf_core_typed.specs.Meets.{IsValue}
use Rattle.cf_core_typed.proofs.Conversions.{to-integer, from-void-is, to-void-pointer}
use Rattle.cf_core_typed.proofs.Same.{and-both, integral-bare, same-operand, same-void, same-plain, same-reference, pointer-form, plain-bare, plain-normal, type-equal}
use Rattle.cf_core_typed.proofs.Values.{place-same, value-same, value-integer}
use Rattle.cf_elab.specs.Answer.{Made, Refused, Elab, onward, need, gives}
use Rattle.cf_elab.specs.Cast as row
use Rattle.cf_elab.specs.Cast.{same_types, takes_null}
use Rattle.cf_elab.specs.Env.{Env}
use Rattle.cf_elab.specs.Fit.{fit, null_of}
use Rattle.cf_elab.specs.Members.{class_number}
use Rattle.cf_elab.specs.Operand.{Value, Sort, integral, enumeral, object_pointer, void_pointer, function_pointer, data_pointer, method_pointer, class_sort, array_sort, function_sort, void_sort, reference_sort, is_reference, is_zero, sort_of, computed, plain as plain_row}
use Rattle.cf_elab_valid.specs.Answers.{Fine}
use Rattle.cf_elab_valid.specs.Conversion.{BothIntegral, IsPointer}
use Rattle.cf_elab_valid.specs.Scene.{Scene, IsScene, tree, typed, scope_of, Within, Inside, Classless, Holds, HoldsKnown, Fits, IsPlain, Meets, is_allowed}
use Rattle.cf_elab_valid.specs.Sorts.{SortIs}
use Rattle.cf_elab_valid.proofs.Arithmetic.{IsOperand, plain-operand}
use Rattle.cf_elab_valid.proofs.Choice.{fits-expression}
use Rattle.cf_elab_valid.proofs.Early.{SortInside, early-sort, early-inside, early-known, early-sort-is, early-sort-inside}
use Rattle.cf_elab_valid.proofs.EarlyTrees.{same_types-end}
use Rattle.cf_elab_valid.proofs.Fit.{convert-plain, integral_operand, leads-fine, retyped-plain}
use Rattle.cf_elab_valid.proofs.FitRows.{fit-fine}
use Rattle.cf_elab_valid.proofs.Nodes.{core-FromVoid, known-FromVoid}
use Rattle.cf_elab_valid.proofs.Numbers.{enumerator-holds}
use Rattle.cf_elab_valid.proofs.Plain.{decayed_tree, plain-fine}
use Rattle.cf_elab_valid.proofs.Sorts.{void-told}
use Rattle.cf_elab_valid.proofs.Trees.{tree-normal}
use Rattle.cf_elab_valid.proofs.Unary.{placed-fits, placed-plain, bare_sort, plain-own, sorted, points-to, classless-number, unused-node}
use Rattle.cf_elab_valid.proofs.Values.{plain-value, value-plain, has_type-is}
use Rattle.cf_elab_valid.proofs.Ways.{fine-as, made-fine, onward-fine, inside-later, within-before, When}

module _ (s : Scene) (scene : IsScene s) where
  -- ---- one conversion to a type that is there

  module _ (e : Env) (w : Within e s) (t : ℕ) (i : Inside e t) where
    type_sort : (k : Sort) → sort_of e.types t ≡ k → SortIs s.tables k (tree s t)
    type_sort k is = subst (λ k. SortIs s.tables k (tree s t)) is (early-sort-is s.tables scene.table e.types w.types scene.no_class scene.none_to_reference t i)

    type_part : (k : Sort) → sort_of e.types t ≡ k → SortInside (length e.types.types) k
    type_part k is = subst (SortInside (length e.types.types)) is (early-sort-inside s.tables scene.table e.types w.types t i)

    normal_type : is_normal (tree s t) ≡ true
    normal_type = tree-normal s.tables scene.table t (early-known s.tables scene.table e.types w.types t i)

  -- from an integer type to an integer type or an enumeration
  pub integer-fine : (at t : ℕ) (x : Value) (z : Option ℤ) (e : Env) → Classless e → When s e (Holds s e) → When s e (Inside e t) → When s e (IsPlain s (tree s x.type) x e) → When s e (BothIntegral (tree s x.type) (tree s t))
      → When s e (HoldsKnown z (tree s t))
      → Fine s (IsPlain s (tree s t)) e (Made (record x { at = at; node = node.Convert at t x.node; type = t; number = z }) e)
  integer-fine at t x z e c h i p both known =
      made-fine s (IsPlain s (tree s t)) e (record x { at = at; node = node.Convert at t x.node; type = t; number = z }) c h
      (λ w. convert-plain s scene e w t (i w) at at x.node x.is_lvalue z x.is_fixed (p w).no_place (p w).fits.numbers (integral_operand s scene (tree s t) (both w).to) (converts_there w) (known w))
    where
      converts_there : (w : Within e s) → converts (plain (tree s t)) (typed s x.node) ≡ true
      converts_there w =
          to-integer (plain (tree s t)) (typed s x.node)
          (sym (integral-bare (plain (tree s t)) (plain-bare (tree s t) (normal_type e w t (i w)))) ∙ ap is_integral (same-plain (tree s t)) ∙ (both w).to)
          (value-integer (typed s x.node) (tree s x.type) (both w).from (plain-value s (tree s x.type) x e (p w)))

  -- from a pointer to void
  from_void-fine : (at t u : ℕ) (x : Value) (e : Env) → Classless e → When s e (Holds s e) → When s e (Inside e t) → When s e (IsPlain s (tree s x.type) x e)
      → When s e (sort_of e.types t ≡ object_pointer u) → sort_of e.types x.type ≡ void_pointer → Fine s (IsPlain s (tree s t)) e (Made (row.from_void at t u x) e)
  from_void-fine at t u x e c h i p to from =
      made-fine s (IsPlain s (tree s t)) e (row.from_void at t u x) c h
      (λ w. let o = type_sort e w t (i w) (object_pointer u) (to w) in
      let part = type_part e w t (i w) (object_pointer u) (to w) in
      let v = sorted s scene x e w (p w) void_pointer from in
      value-plain s e (tree s t) at t (node.FromVoid at u x.node) None false (i w) refl
      (known-FromVoid s.tables at u x.node ∙ and-both (has_type s.tables u) (are_known s.tables x.node) (has_type-is s e u w part) (p w).fits.numbers) (same-operand (tree s t) (pointer (tree s u)) o.same)
      (subst (λ n. IsValue (typing (scope_of s) n) (tree s t)) (sym (core-FromVoid s.tables (signature_of s.tables) at u x.node))
      (value-same (allowed (typed_row.void_pointer (scope_of s) (pointed (typed s x.node).type)) (of_value (pointer (tree s u)))) (pointer (tree s u)) (tree s t) (sym o.same)
      (from-void-is (scope_of s) (tree s u) (tree s v.pointee) (typed s x.node) (tree-normal s.tables scene.table u (early-known s.tables scene.table e.types w.types u part)) v.to_void (points-to s scene x e w (p w) v.pointee v.same)))) tt)

  -- a pointer to a pointer to void
  to_void-fine : (at t v : ℕ) (x : Value) (e : Env) → Classless e → When s e (Holds s e) → When s e (Inside e t) → When s e (IsPlain s (tree s x.type) x e)
      → When s e (sort_of e.types t ≡ void_pointer) → sort_of e.types x.type ≡ object_pointer v → Fine s (IsPlain s (tree s t)) e (Made (row.to_void at t x) e)
  to_void-fine at t v x e c h i p to from =
      made-fine s (IsPlain s (tree s t)) e (row.to_void at t x) c h
      (λ w. let o = sorted s scene x e w (p w) (object_pointer v) from in
      let d = type_sort e w t (i w) void_pointer (to w) in
      let f = pointer-form (plain (tree s t)) (tree s d.pointee) (plain-bare (tree s t) (normal_type e w t (i w))) (same-plain (tree s t) ∙ d.same) in
      convert-plain s scene e w t (i w) at at x.node false None x.is_fixed refl (p w).fits.numbers (same-operand (tree s t) (pointer (tree s d.pointee)) d.same)
      (ap (λ u. converts u (typed s x.node)) f.1
      ∙ to-void-pointer f.0 (tree s v) (typed s x.node) (subst (λ u. is_normal u ≡ true) f.1 (plain-normal (tree s t) (normal_type e w t (i w)))) (same-void f.0 (tree s d.pointee) f.2 ∙ d.to_void) (points-to s scene x e w (p w) v o.same)) tt)

  -- ---- the same type but for const

  same_told : (t u : SourceType) → same_but_const t u ≡ true → Same t u
  same_told t u h = type-equal (without_const t) (without_const u) h

  -- the definitions look at the trees so far, which are those of the end
  pub Matches : Env → ℕ → ℕ → Type 0
  Matches e t u = same_types e t u ≡ true → Within e s → Same (tree s t) (tree s u)

  retyped-fine : (at t : ℕ) (x : Value) (e : Env) → Classless e → When s e (Holds s e) → When s e (Inside e t) → When s e (IsPlain s (tree s x.type) x e) → Matches e x.type t → Fine s (IsOperand s) e (row.retyped at t x e)
  unfolding Matches
  retyped-fine at t x e c h i p m = by (same_types e x.type t) refl
    where
      by : (b : Bool) → same_types e x.type t ≡ b → (let run : Elab Value = if b then gives (record x { type = t; number = None }) else (λ f. Refused 17 at) in Fine s (IsOperand s) e (run e))
      by false is = tt
      by true is =
          made-fine s (IsOperand s) e (record x { type = t; number = None }) c h
          (λ w. let q = retyped-plain s scene e w t (i w) x (tree s x.type) (p w) (m is w) in record { inside = q.fits.inside; numbers = q.fits.numbers; allowed = q.fits.allowed; meets = q.fits.meets; number = tt })

  -- ---- to a type that is no reference and not void

  matches : (e : Env) (t u : ℕ) → Within e s → Holds s e → Inside e t → Inside e u → same_types e t u ≡ true → Same (tree s t) (tree s u)
  matches e t u w h i j is = same_types-end s scene e w h t u i j is

  same-type-fine : (at t : ℕ) (x : Value) (e : Env) → Classless e → When s e (Holds s e) → When s e (Inside e t) → When s e (IsPlain s (tree s x.type) x e) → Fine s (IsOperand s) e (row.retyped at t x e)
  unfolding Matches
  same-type-fine at t x e c h i p = retyped-fine at t x e c h i p (λ is w. matches e x.type t w (h w) (p w).fits.inside (i w) is)

  pointer_fine : (at t u v : ℕ) (x : Value) (e : Env) → Classless e → When s e (Holds s e) → When s e (Inside e t) → When s e (IsPlain s (tree s x.type) x e) → Fine s (IsOperand s) e (row.cast_pointer at t x u v e)
  pointer_fine at t u v x e c h i p =
      subst (λ o. Fine s (IsOperand s) e (row.cast_classes at t x o (class_number (sort_of e.types u)) e)) (sym (classless-number e c v)) (same-type-fine at t x e c h i p)

  scalar-fine : (at t : ℕ) (x : Value) (e : Env) → Classless e → When s e (Holds s e) → When s e (Inside e t) → When s e (IsPlain s (tree s x.type) x e)
      → (k l : Sort) → When s e (sort_of e.types t ≡ k) → sort_of e.types x.type ≡ l → Fine s (IsOperand s) e (row.cast_scalar at t x k l e)
  scalar-fine at t x e c h i p (integral k) (integral l) to from =
      fine-as s (IsPlain s (tree s t)) (IsOperand s) e (fit at x t e) (λ v f q. plain-operand s (tree s t) v f q) (fit-fine s scene e x c h (λ w. (p w).fits) at t i (λ w. ap is_reference (to w)))
  scalar-fine at t x e c h i p (integral k) (enumeral n) to from =
      fine-as s (IsPlain s (tree s t)) (IsOperand s) e (fit at x t e) (λ v f q. plain-operand s (tree s t) v f q) (fit-fine s scene e x c h (λ w. (p w).fits) at t i (λ w. ap is_reference (to w)))
  scalar-fine at t x e c h i p (enumeral n) (integral k) to from =
      fine-as s (IsPlain s (tree s t)) (IsOperand s) e (Made (row.as_enumeration at t x) e) (λ v f q. plain-operand s (tree s t) v f q)
      (integer-fine at t x (option_map (convert kind.Int) x.number) e c h i p
      (λ w. record { from = ap is_integral (sorted s scene x e w (p w) (integral k) from); to = ap is_integral (type_sort e w t (i w) (enumeral n) (to w)).same })
      (λ w. let k = type_sort e w t (i w) (enumeral n) (to w) in enumerator-holds k.name x.number (tree s t) k.same))
  scalar-fine at t x e c h i p (enumeral m) (enumeral n) to from = by (m == n) refl
    where
      by : (b : Bool) → (m == n) ≡ b → (let run : Elab Value = if b then gives (record x { type = t }) else gives (row.as_enumeration at t x) in Fine s (IsOperand s) e (run e))
      by false is =
          fine-as s (IsPlain s (tree s t)) (IsOperand s) e (Made (row.as_enumeration at t x) e) (λ v f q. plain-operand s (tree s t) v f q)
          (integer-fine at t x (option_map (convert kind.Int) x.number) e c h i p
          (λ w. record { from = ap is_integral (sorted s scene x e w (p w) (enumeral n) from).same; to = ap is_integral (type_sort e w t (i w) (enumeral m) (to w)).same })
          (λ w. let k = type_sort e w t (i w) (enumeral m) (to w) in enumerator-holds k.name x.number (tree s t) k.same))
      by true is =
          made-fine s (IsOperand s) e (record x { type = t }) c h
          (λ w. let a = sorted s scene x e w (p w) (enumeral n) from in
          let b = type_sort e w t (i w) (enumeral m) (to w) in
          let names : a.name ≡ b.name = a.is ∙ ap (λ k. scope_code (enum_names s.tables.classes k)) (sym (eqb-true m n is)) ∙ sym b.is in
          plain-operand s (tree s t) (record x { type = t }) e (retyped-plain s scene e w t (i w) x (tree s x.type) (p w) (a.same ∙ ap (λ k. enumeration k) names ∙ sym b.same)))
  scalar-fine at t x e c h i p (object_pointer u) (object_pointer v) to from = pointer_fine at t u v x e c h i p
  scalar-fine at t x e c h i p (object_pointer u) void_pointer to from =
      fine-as s (IsPlain s (tree s t)) (IsOperand s) e (Made (row.from_void at t u x) e) (λ v f q. plain-operand s (tree s t) v f q) (from_void-fine at t u x e c h i p to from)
  scalar-fine at t x e c h i p void_pointer (object_pointer v) to from =
      fine-as s (IsPlain s (tree s t)) (IsOperand s) e (Made (row.to_void at t x) e) (λ v f q. plain-operand s (tree s t) v f q) (to_void-fine at t v x e c h i p to from)
  scalar-fine at t x e c h i p void_pointer void_pointer to from =
      made-fine s (IsOperand s) e (record x { type = t }) c h
      (λ w. let a = sorted s scene x e w (p w) void_pointer from in
      let b = type_sort e w t (i w) void_pointer (to w) in
      plain-operand s (tree s t) (record x { type = t }) e (retyped-plain s scene e w t (i w) x (tree s x.type) (p w)
      (a.same ∙ ap (λ k. pointer k) (void-told (tree s a.pointee) a.to_void ∙ sym (void-told (tree s b.pointee) b.to_void)) ∙ sym b.same)))
  scalar-fine at t x e c h i p (function_pointer u) (function_pointer v) to from = same-type-fine at t x e c h i p
  scalar-fine at t x e c h i p (data_pointer k u) (data_pointer d v) to from = same-type-fine at t x e c h i p
  scalar-fine at t x e c h i p (method_pointer k u) (method_pointer d v) to from = same-type-fine at t x e c h i p
  scalar-fine at t x e c h i p k l to from = tt

  -- the constant 0 to a pointer
  null-fine : (at t : ℕ) (x : Value) (e : Env) → Classless e → When s e (Holds s e) → When s e (Inside e t) → When s e (IsPlain s (tree s x.type) x e)
      → (k : Sort) → When s e (sort_of e.types t ≡ k) → takes_null k ≡ true → Fine s (IsOperand s) e (Made (null_of t x) e)
  null-fine at t x e c h i p k to takes =
      fine-as s (IsPlain s (tree s t)) (IsOperand s) e (Made (null_of t x) e) (λ v f q. plain-operand s (tree s t) v f q)
      (leads-fine s scene t (Null ∷ []) x (tree s x.type) e c h i refl p (λ w. pointer_there k (type_sort e w t (i w) k (to w)) takes))
    where
      pointer_there : (k : Sort) → SortIs s.tables k (tree s t) → takes_null k ≡ true → IsPointer (tree s t)
      pointer_there (object_pointer u) is h = record { pointee = tree s u; same = is.same }
      pointer_there void_pointer is h = record { pointee = tree s is.pointee; same = is.same }
      pointer_there (function_pointer u) is h = record { pointee = tree s u; same = is.same }
      pointer_there (data_pointer c u) is h = absurd is
      pointer_there (method_pointer c u) is h = absurd is
      pointer_there k is h = absurd (true≢false (sym h))

  -- it stands at the cast
  value-fine : (at t : ℕ) (v : Value) (e : Env) → Classless e → When s e (Holds s e) → When s e (Inside e t) → When s e (Fits s e v) → (k : Sort) → When s e (sort_of e.types t ≡ k) → Fine s (IsOperand s) e (row.cast_value at t k v e)
  value-fine at t v e c h i f k to =
      onward-fine s (IsPlain s (decayed_tree s v.type (sort_of e.types v.type))) (IsOperand s) e (plain_row v e) _ (plain-fine s scene e v c h f)
      (λ x e1 g d held p. by (record x { at = at }) e1 d held (λ w. inside-later e e1 t g (i (within-before e e1 s g w)))
      (λ w. placed-plain s (tree s x.type) x at e1 (plain-own s scene (decayed_tree s v.type (sort_of e.types v.type)) x e1 (p w))) (is_zero x.number) (takes_null k) refl
      (λ w. let early = within-before e e1 s g w in
      sym (early-sort s.tables scene.table e1.types w.types t (inside-later e e1 t g (i early))) ∙ early-sort s.tables scene.table e.types early.types t (i early) ∙ to early))
    where
      by : (x : Value) (e1 : Env) → Classless e1 → When s e1 (Holds s e1) → When s e1 (Inside e1 t) → When s e1 (IsPlain s (tree s x.type) x e1) → (a b : Bool) → takes_null k ≡ b → When s e1 (sort_of e1.types t ≡ k)
          → (let run : Elab Value = if a && b then gives (null_of t x) else row.cast_scalar at t x k (sort_of e1.types x.type) in Fine s (IsOperand s) e1 (run e1))
      by x e1 d held i p true true takes to = null-fine at t x e1 d held i p k to takes
      by x e1 d held i p true false takes to = scalar-fine at t x e1 d held i p k (sort_of e1.types x.type) to refl
      by x e1 d held i p false b takes to = scalar-fine at t x e1 d held i p k (sort_of e1.types x.type) to refl

  -- to void the value is not read
  nothing-fine : (at t : ℕ) (v : Value) (e : Env) → Classless e → When s e (Holds s e) → When s e (Inside e t) → When s e (Fits s e v) → When s e (is_void (tree s t) ≡ true) → Fine s (IsOperand s) e (Made (row.to_nothing e at t v) e)
  nothing-fine at t v e c h i f n =
      made-fine s (IsOperand s) e (row.to_nothing e at t v) c h
      (λ w. subst (λ x. Fits s e (computed at (node.Convert at t x) t)) (sym (unused-node e c v))
      (plain-operand s (tree s t) (computed at (node.Convert at t v.node) t) e
      (convert-plain s scene e w t (i w) at at v.node false None false refl (f w).numbers (same-operand (tree s t) void (void-told (tree s t) (n w))) (void_converts w) tt)))
    where
      void_bare : (u : SourceType) → is_bare u ≡ true → is_void u ≡ true → u ≡ void
      void_bare void b h = refl
      void_bare (const u) b h = absurd (true≢false (sym b))
      void_bare u b h = absurd (true≢false (sym h))

      void_converts : (w : Within e s) → converts (plain (tree s t)) (typed s v.node) ≡ true
      void_converts w =
          ap (λ u. converts u (typed s v.node)) (void_bare (plain (tree s t)) (plain-bare (tree s t) (normal_type e w t (i w))) (same-void (plain (tree s t)) (tree s t) (same-plain (tree s t)) ∙ n w))
          ∙ fits-expression s scene e v (f w)

  -- an lvalue as one of the type that a reference refers to
  place-fine : (at u : ℕ) (v : Value) (e : Env) → Classless e → When s e (Holds s e) → When s e (Inside e u) → When s e (Fits s e v) → Fine s (IsOperand s) e (row.as_place at u v e)
  place-fine at u v e c h i f = by v.is_lvalue refl
    where
      again : (b : Bool) → same_types e v.type u ≡ b → v.is_lvalue ≡ true
          → (let run : Elab Value = if b then gives (record v { type = u; number = None }) else (λ f. Refused 17 at) in Fine s (IsOperand s) e (run e))
      again false is l = tt
      again true is l =
          made-fine s (IsOperand s) e (record v { type = u; number = None }) c h
          (λ w. let same = matches e v.type u w (h w) (f w).inside (i w) is in record {
            inside = i w;
            numbers = (f w).numbers;
            allowed = subst (λ b. is_allowed b (tree s u) ≡ true) (sym l) (allowed_there (subst (λ b. is_allowed b (tree s v.type) ≡ true) l (f w).allowed) same);
            meets = subst (λ b. Meets b (typed s v.node) (tree s u)) (sym l) (place-same (typed s v.node) (tree s v.type) (tree s u) same (subst (λ b. Meets b (typed s v.node) (tree s v.type)) l (f w).meets));
            number = tt;
          })
        where
          allowed_there : is_allowed true (tree s v.type) ≡ true → Same (tree s v.type) (tree s u) → is_allowed true (tree s u) ≡ true
          allowed_there a e = ap (λ x. not (x || tree_is_reference (tree s u))) (sym (same-void (tree s v.type) (tree s u) e)) ∙ ap (λ x. not (is_void (tree s v.type) || x)) (sym (same-reference (tree s v.type) (tree s u) e)) ∙ a

      by : (b : Bool) → v.is_lvalue ≡ b → Fine s (IsOperand s) e (onward (need b 17 at e) (λ _ g. row.cast_classes at u v (class_number (sort_of g.types v.type)) (class_number (sort_of g.types u)) g))
      by false l = tt
      by true l =
          subst (λ o. Fine s (IsOperand s) e (row.cast_classes at u v o (class_number (sort_of e.types u)) e)) (sym (classless-number e c v.type)) (again (same_types e v.type u) refl l)

  sort-fine : (at t : ℕ) (v : Value) (e : Env) → Classless e → When s e (Holds s e) → When s e (Inside e t) → When s e (Fits s e v) → (k : Sort) → When s e (sort_of e.types t ≡ k) → Fine s (IsOperand s) e (row.cast_sort at t v k e)
  sort-fine at t v e c h i f void_sort to = nothing-fine at t v e c h i f (λ w. type_sort e w t (i w) void_sort (to w))
  sort-fine at t v e c h i f (reference_sort u) to = place-fine at u (record v { at = at }) e c h (λ w. type_part e w t (i w) (reference_sort u) (to w)) (λ w. placed-fits s v at e (f w))
  sort-fine at t v e c h i f (integral k) to = value-fine at t v e c h i f (integral k) to
  sort-fine at t v e c h i f (enumeral n) to = value-fine at t v e c h i f (enumeral n) to
  sort-fine at t v e c h i f (object_pointer u) to = value-fine at t v e c h i f (object_pointer u) to
  sort-fine at t v e c h i f void_pointer to = value-fine at t v e c h i f void_pointer to
  sort-fine at t v e c h i f (function_pointer u) to = value-fine at t v e c h i f (function_pointer u) to
  sort-fine at t v e c h i f (data_pointer k u) to = value-fine at t v e c h i f (data_pointer k u) to
  sort-fine at t v e c h i f (method_pointer k u) to = value-fine at t v e c h i f (method_pointer k u) to
  sort-fine at t v e c h i f (class_sort k) to = value-fine at t v e c h i f (class_sort k) to
  sort-fine at t v e c h i f (array_sort u n) to = value-fine at t v e c h i f (array_sort u n) to
  sort-fine at t v e c h i f (function_sort g) to = value-fine at t v e c h i f (function_sort g) to

  pub cast-fine : (at t : ℕ) (v : Value) (e : Env) → Classless e → When s e (Holds s e) → When s e (Inside e t) → When s e (Fits s e v) → Fine s (IsOperand s) e (row.cast at t v e)
  cast-fine at t v e c h i f =
      sort-fine at (bare e.types t) v e c h (λ w. early-inside s.tables scene.table e.types w.types t (i w)) f (sort_of e.types t) (λ w. bare_sort s scene e w t (i w))
