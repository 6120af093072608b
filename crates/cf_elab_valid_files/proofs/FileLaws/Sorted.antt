-- What the sort of a type tells of its tree, in a table where arrays have objects.
use Rattle.std.proofs.Common.{◌≡◌, ℕ, zero, suc, ◌+◌, ◌<◌, ◌≤◌, Bool, true, false, not, ◌&&◌, ◌||◌, [], length, Some, IsTrue, slice_get, refl, sym, ap, ◌∙◌, true≢false, arith}
use Rattle.cf_types.specs.declared.ty.Ty.{Ty}
use Rattle.cf_types.specs.declared.ty.Ty.TheVariants as ty
use Rattle.cf_types.specs.Table.{IsTable}
use Rattle.cf_convert.specs.Constness.{type_at, bare}
use Rattle.cf_core.specs.FromTypes.{Tables, type_of, type_step}
use Rattle.cf_core.specs.Places as tree_of
use Rattle.cf_core.specs.Types as tree_is
use Rattle.cf_core.specs.Types.{SourceType, array, const, without_const}
use Rattle.cf_core.specs.Valid.{is_complete, result_fits}
use Rattle.cf_core_typed.specs.Same.{Same, is_operand}
use Rattle.cf_core_typed.proofs.Same.{same-void, same-reference, same-operand, function-operand}
use Rattle.cf_elab.specs.Operand.{sort_of, ty_sort, is_reference, is_void}
use Rattle.cf_elab_env.specs.Holds.{HasNoClass}
use Rattle.cf_elab_env.proofs.Bare.{bare_bare}
use Rattle.cf_elab_env.proofs.Growth.{here, bare_const, bare-known}
use Rattle.cf_elab_env.proofs.Sorts.{below_at, no_class_at}
use Rattle.cf_elab_valid.specs.Sorts.{is_result}
use Rattle.cf_elab_valid.proofs.Trees.{tree-form, function-form}
use Rattle.cf_elab_valid_files.specs.File.Ends.{is_object, is_given}

-- const makes no difference to whether an object can be made
complete-plain : (t : SourceType) → is_complete [] (without_const t) ≡ is_complete [] t
complete-plain (array t n) = complete-plain t
complete-plain (const t) = complete-plain t
complete-plain t = refl

same-complete : (t u : SourceType) → Same t u → is_complete [] t ≡ is_complete [] u
same-complete t u h = sym (complete-plain t) ∙ ap (is_complete []) h ∙ complete-plain u

or-right : (a b : Bool) → b ≡ true → (a || b) ≡ true
or-right true b h = refl
or-right false b h = h

or-left : (a b : Bool) → a ≡ true → (a || b) ≡ true
or-left a b h = ap (λ x. x || b) h

module _ (T : Tables) (well : IsTable T.types) (plain : HasNoClass T.types) where
  abbrev tree : ℕ → SourceType
  tree t = type_of T t

  abbrev Known : ℕ → Type 0
  Known t = t < length T.types.types

  abbrev under : ℕ → Ty
  under t = type_at T.types (bare T.types t)

  at-bare : (t : ℕ) → Known t → (v : Ty) → under t ≡ v → slice_get T.types.types (bare T.types t) ≡ Some v
  at-bare t k v e = here T.types (bare T.types t) (bare-known T.types t well k) ∙ ap Some e

  no-const : (t : ℕ) → Known t → (u : ℕ) → under t ≡ ty.Const u → ⊥
  no-const t k u e =
      let less : u < bare T.types t = below_at T.types (bare T.types t) (ty.Const u) well (at-bare t k (ty.Const u) e) in
      let same : u ≡ bare T.types t = sym (bare_const T.types (bare T.types t) u e) ∙ bare_bare T.types well t k in
      absurd (omega (arith, less, same))

  form : (t : ℕ) → Known t → (v : Ty) → under t ≡ v → Same (tree t) (type_step T tree v)
  form t k v e = tree-form T well t k v e

  class-free : (t : ℕ) → Known t → (n : ℕ) → under t ≡ ty.Class n → ⊥
  class-free t k n e = true≢false (sym (no_class_at T.types (bare T.types t) (ty.Class n) plain (at-bare t k (ty.Class n) e)))

  -- ---- no reference, and no void

  pub reference-told : (t : ℕ) → Known t → is_reference (sort_of T.types t) ≡ false → tree_of.is_reference (tree t) ≡ false
  reference-told t k h = by (under t) refl h
    where
      by : (v : Ty) → under t ≡ v → is_reference (ty_sort T.types v) ≡ false → tree_of.is_reference (tree t) ≡ false
      by (ty.Ref u) e h = absurd (true≢false h)
      by (ty.Fun f) e h = (function-operand (tree t) (function-form T well t k f e)).1
      by (ty.Const u) e h = absurd (no-const t k u e)
      by ty.Void e h = same-reference (tree t) (type_step T tree ty.Void) (form t k ty.Void e)
      by (ty.Int n) e h = same-reference (tree t) (type_step T tree (ty.Int n)) (form t k (ty.Int n) e)
      by (ty.Enum n) e h = same-reference (tree t) (type_step T tree (ty.Enum n)) (form t k (ty.Enum n) e)
      by (ty.Class n) e h = absurd (class-free t k n e)
      by (ty.Ptr u) e h = same-reference (tree t) (type_step T tree (ty.Ptr u)) (form t k (ty.Ptr u) e)
      by (ty.Array u n) e h = same-reference (tree t) (type_step T tree (ty.Array u n)) (form t k (ty.Array u n) e)
      by (ty.MemData n u) e h = same-reference (tree t) (type_step T tree (ty.MemData n u)) (form t k (ty.MemData n u) e)
      by (ty.MemFun n f) e h = same-reference (tree t) (type_step T tree (ty.MemFun n f)) (form t k (ty.MemFun n f) e)

  pub void-told : (t : ℕ) → Known t → is_void (sort_of T.types t) ≡ false → tree_is.is_void (tree t) ≡ false
  void-told t k h = by (under t) refl h
    where
      by : (v : Ty) → under t ≡ v → is_void (ty_sort T.types v) ≡ false → tree_is.is_void (tree t) ≡ false
      by ty.Void e h = absurd (true≢false h)
      by (ty.Fun f) e h = (function-operand (tree t) (function-form T well t k f e)).2
      by (ty.Const u) e h = absurd (no-const t k u e)
      by (ty.Ref u) e h = same-void (tree t) (type_step T tree (ty.Ref u)) (form t k (ty.Ref u) e)
      by (ty.Int n) e h = same-void (tree t) (type_step T tree (ty.Int n)) (form t k (ty.Int n) e)
      by (ty.Enum n) e h = same-void (tree t) (type_step T tree (ty.Enum n)) (form t k (ty.Enum n) e)
      by (ty.Class n) e h = absurd (class-free t k n e)
      by (ty.Ptr u) e h = same-void (tree t) (type_step T tree (ty.Ptr u)) (form t k (ty.Ptr u) e)
      by (ty.Array u n) e h = same-void (tree t) (type_step T tree (ty.Array u n)) (form t k (ty.Array u n) e)
      by (ty.MemData n u) e h = same-void (tree t) (type_step T tree (ty.MemData n u)) (form t k (ty.MemData n u) e)
      by (ty.MemFun n f) e h = same-void (tree t) (type_step T tree (ty.MemFun n f)) (form t k (ty.MemFun n f) e)

  -- ---- what a function gives

  pub given-told : (t : ℕ) → Known t → is_given (sort_of T.types t) ≡ true → is_result (tree t) ≡ true
  given-told t k h = by (under t) refl h
    where
      operand : (v : Ty) → under t ≡ v → is_operand (type_step T tree v) ≡ true → is_result (tree t) ≡ true
      operand v e o = or-left (is_operand (tree t)) (tree_of.is_reference (tree t)) (same-operand (tree t) (type_step T tree v) (form t k v e) ∙ o)

      by : (v : Ty) → under t ≡ v → is_given (ty_sort T.types v) ≡ true → is_result (tree t) ≡ true
      by (ty.Ref u) e h = or-right (is_operand (tree t)) (tree_of.is_reference (tree t)) (same-reference (tree t) (type_step T tree (ty.Ref u)) (form t k (ty.Ref u) e))
      by (ty.Fun f) e h = absurd (true≢false (sym h))
      by (ty.Array u n) e h = absurd (true≢false (sym h))
      by (ty.Const u) e h = absurd (no-const t k u e)
      by (ty.Class n) e h = absurd (class-free t k n e)
      by ty.Void e h = operand ty.Void e refl
      by (ty.Int n) e h = operand (ty.Int n) e refl
      by (ty.Enum n) e h = operand (ty.Enum n) e refl
      by (ty.Ptr u) e h = operand (ty.Ptr u) e refl
      by (ty.MemData n u) e h = operand (ty.MemData n u) e refl
      by (ty.MemFun n f) e h = operand (ty.MemFun n f) e refl

  -- ---- objects

  module _ (elements : (t u n : ℕ) → slice_get T.types.types t ≡ Some (ty.Array u n) → is_object (sort_of T.types u) ≡ true) where
    -- a type without its const stands no later
    bare-low : (u : ℕ) → Known u → bare T.types u ≤ u
    bare-low u known = low (type_at T.types u) refl
      where
        low : (v : Ty) → type_at T.types u ≡ v → bare T.types u ≤ u
        low (ty.Const x) is = let less : x < u = below_at T.types u (ty.Const x) well (here T.types u known ∙ ap Some is) in let same = bare_const T.types u x is in omega (arith, less, same)
        low ty.Void is = rw is (omega arith)
        low (ty.Int x) is = rw is (omega arith)
        low (ty.Enum x) is = rw is (omega arith)
        low (ty.Class x) is = rw is (omega arith)
        low (ty.Ptr x) is = rw is (omega arith)
        low (ty.Ref x) is = rw is (omega arith)
        low (ty.Array x y) is = rw is (omega arith)
        low (ty.Fun x) is = rw is (omega arith)
        low (ty.MemData x y) is = rw is (omega arith)
        low (ty.MemFun x y) is = rw is (omega arith)

    array-whole : (m t u n : ℕ) → bare T.types t < suc m → Known t → under t ≡ ty.Array u n → ((x : ℕ) → bare T.types x < m → Known x → is_object (sort_of T.types x) ≡ true → is_complete [] (tree x) ≡ true) → is_complete [] (tree u) ≡ true
    array-whole m t u n before k e each =
        let at = at-bare t k (ty.Array u n) e in
        let less : u < bare T.types t = below_at T.types (bare T.types t) (ty.Array u n) well at in
        let inside : bare T.types t < length T.types.types = bare-known T.types t well k in
        let known : u < length T.types.types = omega (arith, less, inside) in
        let low = bare-low u known in
        each u (omega (arith, low, less, before)) known (elements (bare T.types t) u n at)

    complete-below : (m t : ℕ) → bare T.types t < m → Known t → is_object (sort_of T.types t) ≡ true → is_complete [] (tree t) ≡ true
    complete-below zero t before k h = absurd (omega (arith, before))
    complete-below (suc m) t before k h = by (λ x low known object. complete-below m x low known object) (under t) refl h
      where
        whole : (v : Ty) → under t ≡ v → is_complete [] (type_step T tree v) ≡ true → is_complete [] (tree t) ≡ true
        whole v e c = same-complete (tree t) (type_step T tree v) (form t k v e) ∙ c

        by : ((x : ℕ) → bare T.types x < m → Known x → is_object (sort_of T.types x) ≡ true → is_complete [] (tree x) ≡ true) → (v : Ty) → under t ≡ v → is_object (ty_sort T.types v) ≡ true → is_complete [] (tree t) ≡ true
        by each ty.Void e h = absurd (true≢false (sym h))
        by each (ty.Fun f) e h = absurd (true≢false (sym h))
        by each (ty.Const u) e h = absurd (no-const t k u e)
        by each (ty.Class n) e h = absurd (class-free t k n e)
        by each (ty.Array u n) e h = whole (ty.Array u n) e (array-whole m t u n before k e each)
        by each (ty.Ref u) e h = whole (ty.Ref u) e refl
        by each (ty.Int n) e h = whole (ty.Int n) e refl
        by each (ty.Enum n) e h = whole (ty.Enum n) e refl
        by each (ty.Ptr u) e h = whole (ty.Ptr u) e refl
        by each (ty.MemData n u) e h = whole (ty.MemData n u) e refl
        by each (ty.MemFun n f) e h = whole (ty.MemFun n f) e refl

    pub complete-told : (t : ℕ) → Known t → is_object (sort_of T.types t) ≡ true → is_complete [] (tree t) ≡ true
    complete-told t k h = complete-below (bare T.types t + 1) t (omega arith) k h

    pub result-told : (t : ℕ) → Known t → is_given (sort_of T.types t) ≡ true → result_fits [] (tree t) ≡ true
    result-told t k h = by (under t) refl h
      where
        whole : (v : Ty) → under t ≡ v → is_complete [] (type_step T tree v) ≡ true → result_fits [] (tree t) ≡ true
        whole v e c = or-right (tree_is.is_void (tree t)) (is_complete [] (tree t)) (same-complete (tree t) (type_step T tree v) (form t k v e) ∙ c)

        by : (v : Ty) → under t ≡ v → is_given (ty_sort T.types v) ≡ true → result_fits [] (tree t) ≡ true
        by ty.Void e h = or-left (tree_is.is_void (tree t)) (is_complete [] (tree t)) (same-void (tree t) (type_step T tree ty.Void) (form t k ty.Void e))
        by (ty.Fun f) e h = absurd (true≢false (sym h))
        by (ty.Array u n) e h = absurd (true≢false (sym h))
        by (ty.Const u) e h = absurd (no-const t k u e)
        by (ty.Class n) e h = absurd (class-free t k n e)
        by (ty.Ref u) e h = whole (ty.Ref u) e refl
        by (ty.Int n) e h = whole (ty.Int n) e refl
        by (ty.Enum n) e h = whole (ty.Enum n) e refl
        by (ty.Ptr u) e h = whole (ty.Ptr u) e refl
        by (ty.MemData n u) e h = whole (ty.MemData n u) e refl
        by (ty.MemFun n f) e h = whole (ty.MemFun n f) e refl
