-- The const type of a type is the same type but for const (7.1.6).
use Rattle.std.proofs.Common.{◌≡◌, ℕ, suc, ◌==◌, ◌<◌, Bool, true, false, List, [], ◌∷◌, ◌++◌, reverse, length, Some, slice_get, refl, sym, ap, subst, ◌∙◌, arith}
use Rattle.std.proofs.lemmas.Bool.{eqb-true}
use Rattle.std.proofs.lemmas.List.{reverse-append, reverse-reverse, length-reverse}
use Rattle.std.proofs.lemmas.Bool.Decides.{nat_tests}
use Rattle.cf_types.specs.declared.ty.Ty.{Ty}
use Rattle.cf_types.specs.declared.ty.Ty.TheVariants as ty
use Rattle.cf_types.proofs.Places.{get-left, get-last}
use Rattle.cf_classes.specs.TypeTree.{of_types}
use Rattle.cf_core.specs.FromTypes.{type_step}
use Rattle.cf_core.specs.Types.{array, without_const}
use Rattle.cf_core_typed.specs.Same.{Same}
use Rattle.cf_elab.specs.Answer.{Elab, onward, gives}
use Rattle.cf_elab.specs.Env.{Env}
use Rattle.cf_elab.specs.Made.{intern, array_of, const_step, const_of, const_if}
use Rattle.cf_elab_env.proofs.Sorts.{below_at, no_class_at}
use Rattle.cf_elab_valid.specs.Answers.{Fine}
use Rattle.cf_elab_valid.specs.Scene.{Scene, IsScene, tree, Within, Steps, Inside, Classless, Holds}
use Rattle.cf_elab_valid.proofs.Making.{IsType, intern-fine}
use Rattle.cf_elab_valid.proofs.Trees.{tree-at}
use Rattle.cf_elab_valid.proofs.Values.{type-tree}
use Rattle.cf_elab_valid.proofs.Ways.{begins-get, inside-later, steps-none, within-before, made-fine, fine-within, onward-fine, When}

-- a type that is the same but for const
pub record IsAlike (s : Scene) (t u : ℕ) (e : Env) : Type 0 where
  pub inside : Inside e u
  pub same : Same (tree s u) (tree s t)

pub alike-later : (s : Scene) (t u : ℕ) (a b : Env) → Steps a b → IsAlike s t u a → IsAlike s t u b
alike-later s t u a b g k = record { inside = inside-later a b u g k.inside; same = k.same }

less_told : (t n : ℕ) → t < suc n → (t == n) ≡ false → t < n
less_told t n lt h = grind (arith, nat_tests, lt, h)

module _ (s : Scene) (scene : IsScene s) (e : Env) where
  -- types of the table, the latest first
  abbrev Latest : List Ty → Type 0
  Latest l = (i : ℕ) (v : Ty) → slice_get (reverse l) i ≡ Some v → slice_get e.types.types i ≡ Some v

  older : (v : Ty) (l : List Ty) → Latest (v ∷ l) → Latest l
  older v l all i x h = all i x (ap (λ k. slice_get k i) (reverse-append (v ∷ []) l) ∙ get-left (reverse l) (v ∷ []) i x h)

  newest : (v : Ty) (l : List Ty) → Latest (v ∷ l) → slice_get e.types.types (length l) ≡ Some v
  newest v l all = all (length l) v (ap (λ k. slice_get k (length l)) (reverse-append (v ∷ []) l) ∙ ap (slice_get (reverse l ++ v ∷ [])) (sym (length-reverse l)) ∙ get-last (reverse l) v)

  module _ (e1 : Env) (g : Steps e e1) (c : Classless e1) (h : When s e1 (Holds s e1)) where
    module _ (t : ℕ) (v : Ty) (at : slice_get e.types.types t ≡ Some v) where
      at_now : slice_get e1.types.types t ≡ Some v
      at_now = begins-get e.types.types e1.types.types t v g.types at

      tree_there : Within e1 s → tree s t ≡ type_step s.tables (tree s) v
      tree_there w = tree-at s.tables scene.table t v (begins-get e1.types.types s.tables.types.types t v w.types at_now)

      -- the type itself
      itself : Fine s (IsType v) e1 (intern v e1)
      itself = intern-fine s v e1 (no_class_at e1.types t v c.no_type at_now) (λ w. (h w).parts t v at_now) c h

      same-fine : Fine s (IsAlike s t) e1 (intern v e1)
      same-fine =
          fine-within s (IsType v) (IsAlike s t) e1 (intern v e1)
          (λ u b k w is. record { inside = is.inside; same = ap without_const (type-tree s scene b v u w is ∙ sym (tree_there (within-before e1 b s k w))) }) itself

      -- const of it
      const-fine : Fine s (IsAlike s t) e1 (onward (intern v e1) (λ u f. intern (ty.Const u) f))
      const-fine =
          onward-fine s (IsType v) (IsAlike s t) e1 (intern v e1) (λ u f. intern (ty.Const u) f) itself
          (λ u e2 k c2 h2 is. fine-within s (IsType (ty.Const u)) (IsAlike s t) e2 (intern (ty.Const u) e2)
          (λ x b l w made. let early = within-before e2 b s l w in record {
            inside = made.inside;
            same = ap without_const (type-tree s scene b (ty.Const u) x w made) ∙ ap without_const (type-tree s scene e2 v u early (is early) ∙ sym (tree_there (within-before e1 e2 s k early)));
          })
          (intern-fine s (ty.Const u) e2 refl (λ w. tt) c2 h2))

      array-fine : (u n : ℕ) (run : Elab ℕ) → v ≡ ty.Array u n → Fine s (IsAlike s u) e1 (run e1) → Fine s (IsAlike s t) e1 (onward (run e1) (λ x f. array_of x n f))
      array-fine u n run is found =
          onward-fine s (IsAlike s u) (IsAlike s t) e1 (run e1) (λ x f. array_of x n f) found
          (λ x e2 k c2 h2 q. fine-within s (IsType (ty.Array x n)) (IsAlike s t) e2 (array_of x n e2)
          (λ y b l w made. let early = within-before e2 b s l w in record {
            inside = made.inside;
            same = ap without_const (type-tree s scene b (ty.Array x n) y w made) ∙ ap (λ a. array a n) (q early).same
                ∙ sym (ap without_const (tree_there (within-before e1 e2 s k early) ∙ ap (type_step s.tables (tree s)) is));
          })
          (intern-fine s (ty.Array x n) e2 refl (λ w. tt) c2 h2))

      by-step : (rec : ℕ → Elab ℕ) → ((u : ℕ) → When s e1 (u < t) → Fine s (IsAlike s u) e1 (rec u e1)) → (x : Ty) → v ≡ x → Fine s (IsAlike s t) e1 (const_step rec x e1)
      by-step rec each (ty.Array u n) is =
          array-fine u n (rec u) is (each u (λ w. below_at s.tables.types t (ty.Array u n) scene.table (begins-get e1.types.types s.tables.types.types t (ty.Array u n) w.types (at_now ∙ ap Some is))))
      by-step rec each (ty.Ref u) is = subst (λ x. Fine s (IsAlike s t) e1 (intern x e1)) is same-fine
      by-step rec each (ty.Fun f) is = subst (λ x. Fine s (IsAlike s t) e1 (intern x e1)) is same-fine
      by-step rec each (ty.Const u) is = subst (λ x. Fine s (IsAlike s t) e1 (intern x e1)) is same-fine
      by-step rec each ty.Void is = subst (λ x. Fine s (IsAlike s t) e1 (onward (intern x e1) (λ u f. intern (ty.Const u) f))) is const-fine
      by-step rec each (ty.Int k) is = subst (λ x. Fine s (IsAlike s t) e1 (onward (intern x e1) (λ u f. intern (ty.Const u) f))) is const-fine
      by-step rec each (ty.Enum k) is = subst (λ x. Fine s (IsAlike s t) e1 (onward (intern x e1) (λ u f. intern (ty.Const u) f))) is const-fine
      by-step rec each (ty.Class k) is = subst (λ x. Fine s (IsAlike s t) e1 (onward (intern x e1) (λ u f. intern (ty.Const u) f))) is const-fine
      by-step rec each (ty.Ptr k) is = subst (λ x. Fine s (IsAlike s t) e1 (onward (intern x e1) (λ u f. intern (ty.Const u) f))) is const-fine
      by-step rec each (ty.MemData k n) is = subst (λ x. Fine s (IsAlike s t) e1 (onward (intern x e1) (λ u f. intern (ty.Const u) f))) is const-fine
      by-step rec each (ty.MemFun k n) is = subst (λ x. Fine s (IsAlike s t) e1 (onward (intern x e1) (λ u f. intern (ty.Const u) f))) is const-fine

    of_types-fine : (t0 : ℕ) (l : List Ty) → Latest l → (t : ℕ) → When s e1 (t < length l) → Fine s (IsAlike s t) e1 (of_types (gives t0) const_step l t e1)
    of_types-fine t0 [] all t lt = made-fine s (IsAlike s t) e1 t0 c h (λ w. let none = lt w in absurd (omega arith))
    of_types-fine t0 (v ∷ l) all t lt = by (t == length l) refl (λ u below. of_types-fine t0 l (older v l all) u below)
      where
        by : (b : Bool) → (t == length l) ≡ b → ((u : ℕ) → When s e1 (u < length l) → Fine s (IsAlike s u) e1 (of_types (gives t0) const_step l u e1))
            → Fine s (IsAlike s t) e1 ((elim b as (λ _. Elab ℕ) [ true ↦ const_step (of_types (gives t0) const_step l) v | false ↦ of_types (gives t0) const_step l t ]) e1)
        by true is each =
            let same = eqb-true t (length l) is in
            let at : slice_get e.types.types t ≡ Some v = ap (slice_get e.types.types) same ∙ newest v l all in
            by-step t v at (of_types (gives t0) const_step l) (λ u below. each u (λ w. let b = below w in omega (arith, same))) v refl
        by false is each = each t (λ w. less_told t (length l) (lt w) is)

module _ (s : Scene) (scene : IsScene s) where
  pub const_of-fine : (t : ℕ) (e : Env) → Classless e → When s e (Holds s e) → When s e (Inside e t) → Fine s (IsAlike s t) e (const_of t e)
  const_of-fine t e c h i =
      of_types-fine s scene e e (steps-none e) c h t (reverse e.types.types) (λ n v at. subst (λ l. slice_get l n ≡ Some v) (reverse-reverse e.types.types) at) t
      (λ w. let inside = i w in omega (arith, length-reverse e.types.types))

  pub const_if-fine : (b : Bool) (t : ℕ) (e : Env) → Classless e → When s e (Holds s e) → When s e (Inside e t) → Fine s (IsAlike s t) e (const_if b t e)
  const_if-fine true t e c h i = const_of-fine t e c h i
  const_if-fine false t e c h i = made-fine s (IsAlike s t) e t c h (λ w. record { inside = i w; same = refl })
