-- Types so far are the same trees as at the end.
use Rattle.std.proofs.Common.{◌≡◌, ℕ, zero, suc, ◌+◌, ◌<◌, length, [], ◌∷◌, Some, None, slice_get, get_or, IsTrue, All, true, false, refl, sym, ap, subst, ◌∙◌, true≢false, arith}
use Rattle.std.proofs.lemmas.Option.{slice_get-get_or}
use Rattle.cf_types.specs.declared.ty.Ty.{Ty}
use Rattle.cf_types.specs.declared.ty.Ty.TheVariants as ty
use Rattle.cf_types.specs.declared.ty.Fun.{Fun}
use Rattle.cf_types.specs.Table.{parts, parts_of_fun}
use Rattle.cf_classes.specs.declared.label.Label.{Label}
use Rattle.cf_classes.specs.ClassTable.{ClassTable}
use Rattle.cf_classes.specs.LinkName.{scope_code, enum_names}
use Rattle.cf_classes.proofs.Trees.{of_type-at}
use Rattle.cf_convert.specs.Constness.{type_at}
use Rattle.cf_core.specs.FromTypes.{Tables, type_of, type_step, fun_type}
use Rattle.cf_core.specs.Types.{SourceType, void, enumeration}
use Rattle.cf_elab.specs.Cast.{same_types}
use Rattle.cf_elab.specs.Env.{Env}
use Rattle.cf_elab_env.specs.Holds.{without_class}
use Rattle.cf_elab_env.proofs.Growth.{here}
use Rattle.cf_elab_env.proofs.Sorts.{no_class_at}
use Rattle.cf_elab_valid.specs.Scene.{Scene, IsScene, tree, Within, Inside, PartInside, Holds}
use Rattle.cf_elab_valid.proofs.Trees.{step_same, tree-at}
use Rattle.cf_elab_valid.proofs.Ways.{begins-get}
use Rattle.cf_core_typed.specs.Same.{Same}
use Rattle.cf_core_typed.proofs.Same.{type-equal}
use Rattle.cf_core.specs.Types.{without_const, same_but_const}

module _ (s : Scene) (scene : IsScene s) (e : Env) (w : Within e s) (h : Holds s e) where
  abbrev now : Tables
  now = record { types = e.types; classes = e.classes }

  abbrev early : ℕ → SourceType
  early t = type_of now t

  same_fun : (f : ℕ) → f < length e.types.funs → slice_get e.types.funs f ≡ slice_get s.tables.types.funs f
  same_fun f k =
      let nothing : Fun = record { result = 0; params = []; is_const = false } in
      let at = slice_get-get_or e.types.funs f nothing k in
      at ∙ sym (begins-get e.types.funs s.tables.types.funs f (get_or e.types.funs f nothing) w.funs at)

  same_enum : (n : ℕ) → n < length e.classes.enums → enum_names e.classes n ≡ enum_names s.tables.classes n
  same_enum n k =
      let at = slice_get-get_or e.classes.enums n nothing k in
      let l = get_or e.classes.enums n nothing in
      named e.classes n l at (h.no_outer n l at) ∙ sym (named s.tables.classes n l (begins-get e.classes.enums s.tables.classes.enums n l w.enums at) (h.no_outer n l at))
    where
      nothing : Label
      nothing = record { name = []; outer = None }

      named : (classes : ClassTable) (n : ℕ) (l : Label) → slice_get classes.enums n ≡ Some l → l.outer ≡ None → enum_names classes n ≡ enum_names (record { labels = []; enums = l ∷ []; defined = [] }) 0
      named classes n l at outer = rw (at, outer) refl

  -- a type by its parts, so far and at the end
  step_end : (v : Ty) → IsTrue (without_class v) → PartInside e v → type_step now (tree s) v ≡ type_step s.tables (tree s) v
  step_end ty.Void c k = refl
  step_end (ty.Int n) c k = refl
  step_end (ty.Enum n) c k = ap (λ x. enumeration (scope_code x)) (same_enum n k)
  step_end (ty.Class n) c k = absurd (true≢false (sym c))
  step_end (ty.Ptr n) c k = refl
  step_end (ty.Ref n) c k = refl
  step_end (ty.Array n m) c k = refl
  step_end (ty.Fun f) c k = ap (fun_type (tree s)) (same_fun f k)
  step_end (ty.MemData n m) c k = absurd (true≢false (sym c))
  step_end (ty.MemFun n m) c k = absurd (true≢false (sym c))
  step_end (ty.Const n) c k = refl

  part_names : (t : ℕ) (v : Ty) → slice_get s.tables.types.types t ≡ Some v → PartInside e v → All (λ p. p < t) (parts e.types.funs v)
  part_names t (ty.Fun f) at k = subst (λ o. All (λ p. p < t) (parts_of_fun o)) (sym (same_fun f k)) (scene.table.earlier t (ty.Fun f) at).parts_known
  part_names t ty.Void at k = (scene.table.earlier t ty.Void at).parts_known
  part_names t (ty.Int n) at k = (scene.table.earlier t (ty.Int n) at).parts_known
  part_names t (ty.Enum n) at k = (scene.table.earlier t (ty.Enum n) at).parts_known
  part_names t (ty.Class n) at k = (scene.table.earlier t (ty.Class n) at).parts_known
  part_names t (ty.Ptr n) at k = (scene.table.earlier t (ty.Ptr n) at).parts_known
  part_names t (ty.Ref n) at k = (scene.table.earlier t (ty.Ref n) at).parts_known
  part_names t (ty.Array n m) at k = (scene.table.earlier t (ty.Array n m) at).parts_known
  part_names t (ty.MemData n m) at k = (scene.table.earlier t (ty.MemData n m) at).parts_known
  part_names t (ty.MemFun n m) at k = absurd (true≢false (sym (no_class_at s.tables.types t (ty.MemFun n m) scene.no_class at)))
  part_names t (ty.Const n) at k = (scene.table.earlier t (ty.Const n) at).parts_known

  early-below : (n t : ℕ) → t < n → Inside e t → early t ≡ tree s t
  early-below zero t before k = absurd (omega arith)
  early-below (suc n) t before k =
      let v = type_at e.types t in
      let at : slice_get e.types.types t ≡ Some v = here e.types t k in
      let at_end = begins-get e.types.types s.tables.types.types t v w.types at in
      let r = of_type-at void (type_step now) e.types t v at in
      let part = h.parts t v at in
      r.2 ∙ step_same now r.0 (tree s) t v (λ u lt. r.1 u lt ∙ early-below n u (omega arith) (omega arith)) (part_names t v at_end part)
      ∙ step_end v (no_class_at s.tables.types t v scene.no_class at_end) part ∙ sym (tree-at s.tables scene.table t v at_end)

  pub early-tree : (t : ℕ) → Inside e t → early t ≡ tree s t
  early-tree t k = early-below (t + 1) t (omega arith) k

  -- types that are found to be the same so far are the same
  pub same_types-end : (t u : ℕ) → Inside e t → Inside e u → same_types e t u ≡ true → Same (tree s t) (tree s u)
  same_types-end t u k l found =
      let told : same_but_const (tree s t) (tree s u) ≡ true = ap (λ x. same_but_const x (tree s u)) (sym (early-tree t k)) ∙ ap (same_but_const (early t)) (sym (early-tree u l)) ∙ found in
      type-equal (without_const (tree s t)) (without_const (tree s u)) told
