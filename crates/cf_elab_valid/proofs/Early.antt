-- A table on the way to a longer one: the types that it has are those of the end.
use Rattle.std.proofs.Common.{◌≡◌, ℕ, ◌<◌, ◌≤◌, length, Some, refl, ap, subst, ◌∙◌, arith}
use Rattle.cf_types.specs.declared.ty.Ty.{Ty}
use Rattle.cf_types.specs.declared.ty.Ty.TheVariants as ty
use Rattle.cf_types.specs.Table.{Table, IsTable, NamesBelow}
use Rattle.cf_convert.specs.Constness.{type_at, bare}
use Rattle.cf_core.specs.FromTypes.{Tables, type_of, type_step}
use Rattle.cf_core.specs.Types.{SourceType}
use Rattle.cf_core_typed.specs.Same.{Same}
use Rattle.cf_elab.specs.Operand.{Sort, sort_of, ty_sort, pointer_sort, integral, enumeral, object_pointer, void_pointer, function_pointer, data_pointer, method_pointer, class_sort, array_sort, function_sort, void_sort, reference_sort}
use Rattle.cf_elab_env.specs.Holds.{HasNoClass}
use Rattle.cf_elab_env.proofs.Growth.{here, bare_const, type_at-grows, bare-grows}
use Rattle.cf_elab_env.proofs.Sorts.{below_at}
use Rattle.cf_elab_valid.specs.Scene.{Begins}
use Rattle.cf_elab_valid.specs.Sorts.{NoneToReference, SortIs}
use Rattle.cf_elab_valid.proofs.Trees.{tree-bare, tree-form, sort-is}
use Rattle.cf_elab_valid.proofs.Ways.{begins-get, begins-inside}

-- the types that a sort names are among the first of this count
abbrev pub SortInside : ℕ → Sort → Type 0
SortInside n (integral k) = Unit {0}
SortInside n (enumeral e) = Unit {0}
SortInside n (object_pointer t) = t < n
SortInside n void_pointer = Unit {0}
SortInside n (function_pointer t) = t < n
SortInside n (data_pointer c t) = Unit {0}
SortInside n (method_pointer c f) = Unit {0}
SortInside n (class_sort c) = Unit {0}
SortInside n (array_sort t m) = t < n
SortInside n (function_sort f) = Unit {0}
SortInside n void_sort = Unit {0}
SortInside n (reference_sort t) = t < n

module _ (T : Tables) (well : IsTable T.types) (types : Table) (begins : Begins types.types T.types.types) where
  abbrev tree : ℕ → SourceType
  tree t = type_of T t

  abbrev Known : ℕ → Type 0
  Known t = t < length types.types

  pub early-known : (t : ℕ) → Known t → t < length T.types.types
  early-known t k = begins-inside types.types T.types.types t begins k

  pub early-type : (t : ℕ) → Known t → type_at T.types t ≡ type_at types t
  early-type t k = type_at-grows types T.types begins.more begins.all t k

  pub early-bare_is : (t : ℕ) → Known t → bare T.types t ≡ bare types t
  early-bare_is t k = bare-grows types T.types begins.more begins.all t k

  early-below : (t : ℕ) (v : Ty) → Known t → type_at types t ≡ v → NamesBelow t v
  early-below t v k e = below_at T.types t v well (begins-get types.types T.types.types t v begins (here types t k ∙ ap Some e))

  bare_le : (t : ℕ) → Known t → bare types t ≤ t
  bare_le t k = by (type_at types t) refl
    where
      by : (v : Ty) → type_at types t ≡ v → bare types t ≤ t
      by (ty.Const u) e = let below : u < t = early-below t (ty.Const u) k e in let same = bare_const types t u e in omega arith
      by ty.Void e = rw e (omega arith)
      by (ty.Int n) e = rw e (omega arith)
      by (ty.Enum n) e = rw e (omega arith)
      by (ty.Class c) e = rw e (omega arith)
      by (ty.Ptr x) e = rw e (omega arith)
      by (ty.Ref x) e = rw e (omega arith)
      by (ty.Array x n) e = rw e (omega arith)
      by (ty.Fun f) e = rw e (omega arith)
      by (ty.MemData c x) e = rw e (omega arith)
      by (ty.MemFun c f) e = rw e (omega arith)

  pub early-inside : (t : ℕ) → Known t → Known (bare types t)
  early-inside t k = let le = bare_le t k in omega arith

  pub early-bare : (t : ℕ) → Known t → Same (tree t) (tree (bare types t))
  early-bare t k = subst (λ b. Same (tree t) (tree b)) (early-bare_is t k) (tree-bare T well t (early-known t k))

  pub early-under : (t : ℕ) → Known t → type_at T.types (bare T.types t) ≡ type_at types (bare types t)
  early-under t k = ap (type_at T.types) (early-bare_is t k) ∙ early-type (bare types t) (early-inside t k)

  pub early-form : (t : ℕ) → Known t → (v : Ty) → type_at types (bare types t) ≡ v → Same (tree t) (type_step T tree v)
  early-form t k v e = tree-form T well t (early-known t k) v (early-under t k ∙ e)

  -- a type that another one names
  pub early-part : (t : ℕ) → Known t → (v : Ty) (u : ℕ) → type_at types (bare types t) ≡ v → (NamesBelow (bare types t) v → u < bare types t) → Known u
  early-part t k v u e part =
      let inside = early-inside t k in
      let below = part (early-below (bare types t) v inside e) in
      omega arith

  pointer-end : (p : ℕ) → Known p → pointer_sort p (type_at T.types (bare T.types p)) ≡ pointer_sort p (type_at types (bare types p))
  pointer-end p k = ap (pointer_sort p) (early-under p k)

  -- a type has the sort that it has at the end
  pub early-sort : (t : ℕ) → Known t → sort_of T.types t ≡ sort_of types t
  early-sort t k = ap (ty_sort T.types) (early-under t k) ∙ by (type_at types (bare types t)) refl
    where
      by : (v : Ty) → type_at types (bare types t) ≡ v → ty_sort T.types v ≡ ty_sort types v
      by (ty.Ptr p) e = pointer-end p (early-part t k (ty.Ptr p) p e (λ h. h))
      by ty.Void e = refl
      by (ty.Int n) e = refl
      by (ty.Enum n) e = refl
      by (ty.Class c) e = refl
      by (ty.Ref x) e = refl
      by (ty.Array x n) e = refl
      by (ty.Fun f) e = refl
      by (ty.MemData c x) e = refl
      by (ty.MemFun c f) e = refl
      by (ty.Const x) e = refl

  pub early-sort-is : HasNoClass T.types → NoneToReference T → (t : ℕ) → Known t → SortIs T (sort_of types t) (tree t)
  early-sort-is all refs t k = subst (λ s. SortIs T s (tree t)) (early-sort t k) (sort-is T well all refs t (early-known t k))

  pointer-inside : (p : ℕ) (v : Ty) → Known p → SortInside (length types.types) (pointer_sort p v)
  pointer-inside p ty.Void k = tt
  pointer-inside p (ty.Fun f) k = k
  pointer-inside p (ty.Int n) k = k
  pointer-inside p (ty.Enum n) k = k
  pointer-inside p (ty.Class n) k = k
  pointer-inside p (ty.Ptr n) k = k
  pointer-inside p (ty.Ref n) k = k
  pointer-inside p (ty.Array n m) k = k
  pointer-inside p (ty.MemData c n) k = k
  pointer-inside p (ty.MemFun c f) k = k
  pointer-inside p (ty.Const n) k = k

  pub early-sort-inside : (t : ℕ) → Known t → SortInside (length types.types) (sort_of types t)
  early-sort-inside t k = by (type_at types (bare types t)) refl
    where
      by : (v : Ty) → type_at types (bare types t) ≡ v → SortInside (length types.types) (ty_sort types v)
      by (ty.Ptr p) e = pointer-inside p (type_at types (bare types p)) (early-part t k (ty.Ptr p) p e (λ h. h))
      by (ty.Ref x) e = early-part t k (ty.Ref x) x e (λ h. h)
      by (ty.Array x n) e = early-part t k (ty.Array x n) x e (λ h. h)
      by ty.Void e = tt
      by (ty.Int n) e = tt
      by (ty.Enum n) e = tt
      by (ty.Class c) e = tt
      by (ty.Fun f) e = tt
      by (ty.MemData c x) e = tt
      by (ty.MemFun c f) e = tt
      by (ty.Const x) e = tt
