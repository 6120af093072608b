-- Types that are alike by their numbers are the same but for const as trees.
use Rattle.std.proofs.Common.{◌≡◌, ℕ, zero, suc, ◌+◌, ◌<◌, ◌==◌, Bool, true, length, Some, slice_get, refl, sym, ap, ◌∙◌, true≢false, arith}
use Rattle.std.proofs.lemmas.Bool.{eqb-true}
use Rattle.cf_types.specs.declared.ty.Ty.{Ty}
use Rattle.cf_types.specs.declared.ty.Ty.TheVariants as ty
use Rattle.cf_types.specs.Table.{Table, IsTable, NamesBelow}
use Rattle.cf_convert.specs.Constness.{type_at, bare, is_alike, alike_step, alike_array}
use Rattle.cf_convert.proofs.Constness.{alike-at}
use Rattle.cf_core.specs.FromTypes.{Tables, type_of}
use Rattle.cf_core.specs.Types.{SourceType, array, without_const}
use Rattle.cf_core_typed.specs.Same.{Same}
use Rattle.cf_core_typed.proofs.Same.{and-left, and-right}
use Rattle.cf_elab_env.proofs.Growth.{here}
use Rattle.cf_elab_env.proofs.Sorts.{below_at}
use Rattle.cf_elab_valid.specs.Scene.{Begins}
use Rattle.cf_elab_valid.proofs.Early.{early-bare, early-form, early-part}
use Rattle.cf_elab_valid.proofs.Trees.{tree-at}
use Rattle.cf_elab_valid.proofs.Ways.{begins-get}

module _ (T : Tables) (well : IsTable T.types) (types : Table) (begins : Begins types.types T.types.types) where
  abbrev tree : ℕ → SourceType
  tree t = type_of T t

  abbrev Known : ℕ → Type 0
  Known t = t < length types.types

  abbrev rec : ℕ → ℕ → ℕ → Bool
  rec s own w = is_alike types s w

  bare-same : (t u : ℕ) → Known u → (t == bare types u) ≡ true → Same (tree t) (tree u)
  bare-same t u k h = ap (λ n. without_const (tree n)) (eqb-true t (bare types u) h) ∙ sym (early-bare T well types begins u k)

  -- the same of what a type names
  abbrev Earlier : ℕ → Type 0
  Earlier t = (s u : ℕ) → s < t → Known s → Known u → is_alike types s u ≡ true → Same (tree s) (tree u)

  module _ (t u : ℕ) (k : Known t) (l : Known u) (earlier : Earlier t) where
    elements : (s m : ℕ) → s < t → (w : Ty) → type_at types (bare types u) ≡ w → alike_array (rec s s) m w ≡ true → Same (array (tree s) m) (tree u)
    elements s m lt (ty.Array x p) is same =
        let x_in : Known x = early-part T well types begins u l (ty.Array x p) x is (λ h. h) in
        let counts = eqb-true m p (and-left (m == p) (is_alike types s x) same) in
        let inner : Same (tree s) (tree x) = earlier s x lt (omega arith) x_in (and-right (m == p) (is_alike types s x) same) in
        ap (λ w. array w m) inner ∙ ap (array (without_const (tree x))) counts ∙ sym (early-form T well types begins u l (ty.Array x p) is)
    elements s m lt ty.Void is same = absurd (true≢false (sym same))
    elements s m lt (ty.Int n) is same = absurd (true≢false (sym same))
    elements s m lt (ty.Enum c) is same = absurd (true≢false (sym same))
    elements s m lt (ty.Class c) is same = absurd (true≢false (sym same))
    elements s m lt (ty.Ptr x) is same = absurd (true≢false (sym same))
    elements s m lt (ty.Ref x) is same = absurd (true≢false (sym same))
    elements s m lt (ty.Fun f) is same = absurd (true≢false (sym same))
    elements s m lt (ty.MemData c x) is same = absurd (true≢false (sym same))
    elements s m lt (ty.MemFun c f) is same = absurd (true≢false (sym same))
    elements s m lt (ty.Const x) is same = absurd (true≢false (sym same))

    by_form : (v : Ty) → slice_get T.types.types t ≡ Some v → NamesBelow t v → alike_step types rec v t u ≡ true → Same (tree t) (tree u)
    by_form (ty.Const s) at below h = ap without_const (tree-at T well t (ty.Const s) at) ∙ earlier s u below (omega arith) l h
    by_form (ty.Array s m) at below h = ap without_const (tree-at T well t (ty.Array s m) at) ∙ elements s m below (type_at types (bare types u)) refl h
    by_form ty.Void at below h = bare-same t u l h
    by_form (ty.Int n) at below h = bare-same t u l h
    by_form (ty.Enum e) at below h = bare-same t u l h
    by_form (ty.Class c) at below h = bare-same t u l h
    by_form (ty.Ptr x) at below h = bare-same t u l h
    by_form (ty.Ref x) at below h = bare-same t u l h
    by_form (ty.Fun f) at below h = bare-same t u l h
    by_form (ty.MemData c x) at below h = bare-same t u l h
    by_form (ty.MemFun c f) at below h = bare-same t u l h

  alike-below : (n t u : ℕ) → t < n → Known t → Known u → is_alike types t u ≡ true → Same (tree t) (tree u)
  alike-below zero t u before k l h = absurd (omega arith)
  alike-below (suc n) t u before k l h =
      let v = type_at types t in
      let at : slice_get types.types t ≡ Some v = here types t k in
      let at_end = begins-get types.types T.types.types t v begins at in
      let below = below_at T.types t v well at_end in
      by_form t u k l (λ s x lt p q g. alike-below n s x (omega arith) p q g) v at_end below (sym (alike-at types t v at below u) ∙ h)

  -- types that are alike so far are the same at the end
  pub alike-same : (t u : ℕ) → Known t → Known u → is_alike types t u ≡ true → Same (tree t) (tree u)
  alike-same t u k l h = alike-below (t + 1) t u (omega arith) k l h
