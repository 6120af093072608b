-- Casts, and types with arguments (5.2.3, 5.4).
use Rattle.std.proofs.Common.{◌≡◌, ℕ, ◌==◌, Bool, true, false, ◌&&◌, if◌then◌else◌, List, [], ◌∷◌, pos, None, refl, sym, ap, subst, ◌∙◌}
use Rattle.cf_base.specs.Integers.{convert}
use Rattle.cf_base.specs.declared.kind.Kind.TheVariants as kind
use Rattle.cf_convert.specs.Constness.{bare}
use Rattle.cf_core.specs.declared.node.Core.TheVariants as node
use Rattle.cf_elab.specs.Answer.{Made, Refused, Elab, need, gives}
use Rattle.cf_elab.specs.Cast as row
use Rattle.cf_elab.specs.Cast.{same_types, takes_null}
use Rattle.cf_elab.specs.ClassOperand.{is_object}
use Rattle.cf_elab.specs.ClassOperators as operators
use Rattle.cf_elab.specs.Env.{Env}
use Rattle.cf_elab.specs.Expression as expression
use Rattle.cf_elab.specs.Fit.{fit, null_of}
use Rattle.cf_elab.specs.Members.{class_number}
use Rattle.cf_elab.specs.Operand.{Value, Sort, integral, enumeral, object_pointer, void_pointer, function_pointer, data_pointer, method_pointer, class_sort, array_sort, function_sort, void_sort, reference_sort, sort_of, is_reference, is_zero, constant, plain}
use Rattle.cf_elab_valid.specs.Scene.{Scene, IsScene, tree, Inside, Classless, Holds}
use Rattle.cf_elab_valid.proofs.Early.{early-sort, early-inside}
use Rattle.cf_elab_valid.proofs.FitRows.{needed}
use Rattle.cf_elab_valid.proofs.Operands.{no-object}
use Rattle.cf_elab_valid.proofs.Plain.{decayed_tree}
use Rattle.cf_elab_valid.proofs.Unary.{bare_sort, classless-number}
use Rattle.cf_elab_valid.proofs.Ways.{fine-as, inside-later, within-before, When}
use Rattle.cf_elab_apart.specs.Apart.{Apart}
use Rattle.cf_elab_apart.proofs.Alike.{alike-Number, alike-Convert}
use Rattle.cf_elab_apart.proofs.Answers.{Tells, tells-fine, tells-behind, tells-still}
use Rattle.cf_elab_apart.proofs.Fit.{Both, placed-both, PlainBoth, plain-both, fit-both}
use Rattle.cf_elab_apart.proofs.Settled.{some-mapped, bare-apart, alike-apart, fixed-apart}

-- each of several values
abbrev pub AllApart : Scene → List Value → Type 0
AllApart s [] = Unit {0}
AllApart s (v ∷ vs) = Apart s v × AllApart s vs

module _ (s : Scene) (scene : IsScene s) where
  -- ---- values of another type

  enumeration-apart : (at t : ℕ) (x : Value) → Apart s x → Apart s (row.as_enumeration at t x)
  enumeration-apart at t x a = record { fixed = λ q. alike-Convert s at t x.node (a.fixed q); number = λ l z. alike-Convert s at t x.node (a.number l (some-mapped (convert kind.Int) x.number z)) }

  retyped-apart : (t : ℕ) (x : Value) → Apart s x → Apart s (record x { type = t })
  retyped-apart t x a = record { fixed = λ q. a.fixed q; number = λ l z. a.number l z }

  retyped-tells : (at t : ℕ) (x : Value) (e : Env) → When s e (Apart s x) → Tells s (Apart s) (row.retyped at t x e)
  retyped-tells at t x e a = by (same_types e x.type t)
    where
      by : (b : Bool) → (let run : Elab Value = if b then gives (record x { type = t; number = None }) else (λ f. Refused 17 at) in Tells s (Apart s) (run e))
      by false = tt
      by true = λ w. fixed-apart s (record x { type = t; number = None }) refl (λ q. (a w).fixed q)

  pointer-tells : (at t u v : ℕ) (x : Value) (e : Env) → Classless e → When s e (Apart s x) → Tells s (Apart s) (row.cast_pointer at t x u v e)
  pointer-tells at t u v x e c a = subst (λ o. Tells s (Apart s) (row.cast_classes at t x o (class_number (sort_of e.types u)) e)) (sym (classless-number e c v)) (retyped-tells at t x e a)

  fit-tells : (at t : ℕ) (x : Value) (e : Env) → Classless e → When s e (Holds s e) → When s e (Both s x e) → When s e (Inside e t) → When s e (is_reference (sort_of e.types t) ≡ false) → Tells s (Apart s) (fit at x t e)
  fit-tells at t x e c h b i r = tells-fine s (Apart s) e (fit at x t e) (fine-as s (PlainBoth s (tree s t)) (λ y f. Apart s y) e (fit at x t e) (λ y f p. p.1) (fit-both s scene e x c h b at t i r))

  scalar-tells : (at t : ℕ) (x : Value) (e : Env) → Classless e → When s e (Holds s e) → When s e (Inside e t) → When s e (Both s x e) → (k l : Sort) → When s e (sort_of e.types t ≡ k) → Tells s (Apart s) (row.cast_scalar at t x k l e)
  scalar-tells at t x e c h i b (integral k) (integral l) to = fit-tells at t x e c h b i (λ w. ap is_reference (to w))
  scalar-tells at t x e c h i b (integral k) (enumeral n) to = fit-tells at t x e c h b i (λ w. ap is_reference (to w))
  scalar-tells at t x e c h i b (enumeral n) (integral k) to = λ w. enumeration-apart at t x (b w).1
  scalar-tells at t x e c h i b (enumeral m) (enumeral n) to = by (m == n)
    where
      by : (q : Bool) → (let run : Elab Value = if q then gives (record x { type = t }) else gives (row.as_enumeration at t x) in Tells s (Apart s) (run e))
      by false = λ w. enumeration-apart at t x (b w).1
      by true = λ w. retyped-apart t x (b w).1
  scalar-tells at t x e c h i b (object_pointer u) (object_pointer v) to = pointer-tells at t u v x e c (λ w. (b w).1)
  scalar-tells at t x e c h i b (object_pointer u) void_pointer to = λ w. bare-apart s (row.from_void at t u x) refl refl
  scalar-tells at t x e c h i b void_pointer (object_pointer v) to = λ w. fixed-apart s (row.to_void at t x) refl (λ q. alike-Convert s at t x.node ((b w).1.fixed q))
  scalar-tells at t x e c h i b void_pointer void_pointer to = λ w. retyped-apart t x (b w).1
  scalar-tells at t x e c h i b (function_pointer u) (function_pointer v) to = retyped-tells at t x e (λ w. (b w).1)
  scalar-tells at t x e c h i b (data_pointer k u) (data_pointer d v) to = retyped-tells at t x e (λ w. (b w).1)
  scalar-tells at t x e c h i b (method_pointer k u) (method_pointer d v) to = retyped-tells at t x e (λ w. (b w).1)
  scalar-tells at t x e c h i b k l to = tt

  null-apart : (t : ℕ) (x : Value) → Apart s (null_of t x)
  null-apart t x = alike-apart s (null_of t x) (alike-Convert s x.at t (node.Number x.at (pos 0)) (alike-Number s x.at (pos 0)))

  -- it stands at the cast
  value-tells : (at t : ℕ) (v : Value) (e : Env) → Classless e → When s e (Holds s e) → When s e (Inside e t) → When s e (Both s v e) → (k : Sort) → When s e (sort_of e.types t ≡ k) → Tells s (Apart s) (row.cast_value at t k v e)
  value-tells at t v e c h i b k to =
      tells-behind s (PlainBoth s (decayed_tree s v.type (sort_of e.types v.type))) (Apart s) e (plain v e) _ (plain-both s scene e v c h b)
      (λ x e1 g d held p. by (record x { at = at }) e1 d held (λ w. inside-later e e1 t g (i (within-before e e1 s g w))) (λ w. placed-both s x at e1 ((p w).0.fits, (p w).1)) (is_zero x.number && takes_null k)
      (λ w. let early = within-before e e1 s g w in
      sym (early-sort s.tables scene.table e1.types w.types t (inside-later e e1 t g (i early))) ∙ early-sort s.tables scene.table e.types early.types t (i early) ∙ to early))
    where
      by : (x : Value) (e1 : Env) → Classless e1 → When s e1 (Holds s e1) → When s e1 (Inside e1 t) → When s e1 (Both s x e1) → (m : Bool) → When s e1 (sort_of e1.types t ≡ k)
          → (let run : Elab Value = if m then gives (null_of t x) else row.cast_scalar at t x k (sort_of e1.types x.type) in Tells s (Apart s) (run e1))
      by x e1 d held i b true to = λ w. null-apart t x
      by x e1 d held i b false to = scalar-tells at t x e1 d held i b k (sort_of e1.types x.type) to

  place-tells : (at u : ℕ) (v : Value) (e : Env) → Classless e → When s e (Apart s v) → Tells s (Apart s) (row.as_place at u v e)
  place-tells at u v e c a =
      tells-still s (Apart s) e (need v.is_lvalue 17 at e) (λ g. row.cast_classes at u v (class_number (sort_of g.types v.type)) (class_number (sort_of g.types u)) g) (needed e v.is_lvalue 17 at)
      (subst (λ o. Tells s (Apart s) (row.cast_classes at u v o (class_number (sort_of e.types u)) e)) (sym (classless-number e c v.type)) (retyped-tells at u v e a))

  sort-tells : (at t : ℕ) (v : Value) (e : Env) → Classless e → When s e (Holds s e) → When s e (Inside e t) → When s e (Both s v e) → (k : Sort) → When s e (sort_of e.types t ≡ k) → Tells s (Apart s) (row.cast_sort at t v k e)
  sort-tells at t v e c h i b void_sort to = λ w. bare-apart s (row.to_nothing e at t v) refl refl
  sort-tells at t v e c h i b (reference_sort u) to = place-tells at u (record v { at = at }) e c (λ w. (placed-both s v at e (b w)).1)
  sort-tells at t v e c h i b (integral k) to = value-tells at t v e c h i b (integral k) to
  sort-tells at t v e c h i b (enumeral n) to = value-tells at t v e c h i b (enumeral n) to
  sort-tells at t v e c h i b (object_pointer u) to = value-tells at t v e c h i b (object_pointer u) to
  sort-tells at t v e c h i b void_pointer to = value-tells at t v e c h i b void_pointer to
  sort-tells at t v e c h i b (function_pointer u) to = value-tells at t v e c h i b (function_pointer u) to
  sort-tells at t v e c h i b (data_pointer k u) to = value-tells at t v e c h i b (data_pointer k u) to
  sort-tells at t v e c h i b (method_pointer k u) to = value-tells at t v e c h i b (method_pointer k u) to
  sort-tells at t v e c h i b (class_sort k) to = value-tells at t v e c h i b (class_sort k) to
  sort-tells at t v e c h i b (array_sort u n) to = value-tells at t v e c h i b (array_sort u n) to
  sort-tells at t v e c h i b (function_sort g) to = value-tells at t v e c h i b (function_sort g) to

  cast-tells : (at t : ℕ) (v : Value) (e : Env) → Classless e → When s e (Holds s e) → When s e (Inside e t) → When s e (Both s v e) → Tells s (Apart s) (row.cast at t v e)
  cast-tells at t v e c h i b = sort-tells at (bare e.types t) v e c h (λ w. early-inside s.tables scene.table e.types w.types t (i w)) b (sort_of e.types t) (λ w. bare_sort s scene e w t (i w))

  pub cast_operator-tells : (at t : ℕ) (v : Value) (e : Env) → Classless e → When s e (Holds s e) → When s e (Inside e t) → When s e (Both s v e) → Tells s (Apart s) (operators.cast_operator at t v e)
  cast_operator-tells at t v e c h i b =
      subst (λ o. Tells s (Apart s) (operators.cast_by_class at t v o (is_object e v) e)) (sym (classless-number e c t))
      (subst (λ m. Tells s (Apart s) (operators.cast_by_class at t v None m e)) (sym (no-object e c v)) (cast-tells at t v e c h i b))

  -- ---- types with arguments

  zero-tells : (at t : ℕ) (e : Env) → Tells s (Apart s) (row.zero_value at t e)
  zero-tells at t e = by (sort_of e.types t) (bare e.types t) (constant at (pos 0) t) (alike-apart s (constant at (pos 0) t) (alike-Number s at (pos 0)))
    where
      by : (k : Sort) (u : ℕ) (z : Value) → Apart s z → Tells s (Apart s) ((elim k as (λ _. ℕ → Value → Elab Value) [
        | integral j ↦ λ u z. λ f. Made (record z { type = u }) f
        | enumeral n ↦ λ u z. λ f. Made (row.as_enumeration at u z) f
        | object_pointer a ↦ λ u z. λ f. Made (null_of u z) f
        | void_pointer ↦ λ u z. λ f. Made (null_of u z) f
        | function_pointer a ↦ λ u z. λ f. Made (null_of u z) f
        | data_pointer a b ↦ λ u z. λ f. Made (null_of u z) f
        | method_pointer a b ↦ λ u z. λ f. Made (null_of u z) f
        | class_sort a ↦ λ u z. λ f. Refused 17 at
        | array_sort a b ↦ λ u z. λ f. Refused 17 at
        | function_sort a ↦ λ u z. λ f. Refused 17 at
        | void_sort ↦ λ u z. λ f. Made (row.to_nothing f at u z) f
        | reference_sort a ↦ λ u z. λ f. Refused 17 at
      ]) u z e)
      by (integral j) u z a = λ w. retyped-apart u z a
      by (enumeral n) u z a = λ w. enumeration-apart at u z a
      by (object_pointer p) u z a = λ w. null-apart u z
      by void_pointer u z a = λ w. null-apart u z
      by (function_pointer p) u z a = λ w. null-apart u z
      by (data_pointer p q) u z a = λ w. null-apart u z
      by (method_pointer p q) u z a = λ w. null-apart u z
      by (class_sort p) u z a = tt
      by (array_sort p q) u z a = tt
      by (function_sort p) u z a = tt
      by void_sort u z a = λ w. bare-apart s (row.to_nothing e at u z) refl refl
      by (reference_sort p) u z a = tt

  pub from_type-tells : (at t : ℕ) (vs : List Value) (e : Env) → Classless e → When s e (Holds s e) → When s e (Inside e t) → ((x : Value) → vs ≡ x ∷ [] → When s e (Both s x e)) → Tells s (Apart s) (expression.from_type at t vs (class_number (sort_of e.types t)) e)
  from_type-tells at t vs e c h i b = subst (λ o. Tells s (Apart s) (expression.from_type at t vs o e)) (sym (classless-number e c t)) (by vs b)
    where
      by : (vs : List Value) → ((x : Value) → vs ≡ x ∷ [] → When s e (Both s x e)) → Tells s (Apart s) (row.from_arguments at t vs e)
      by [] b = zero-tells at t e
      by (x ∷ []) b = cast-tells at t x e c h i (b x refl)
      by (x ∷ y ∷ rest) b = tt
