-- The size of a type by the table is that of its tree, where its objects can be made (5.3.2).
use Rattle.std.proofs.Common.{◌≡◌, ℕ, zero, suc, ◌+◌, ◌*◌, ◌<◌, ◌≤◌, Bool, true, false, List, [], ◌∷◌, length, map, Some, Option, None, IsTrue, slice_get, refl, sym, ap, subst, ◌∙◌, true≢false, arith, lit≤}
use native.Mathlib.Nat.{mul_comm}
use Rattle.cf_types.specs.declared.ty.Fun.{Fun}
use Rattle.cf_types.specs.declared.ty.Ty.{Ty}
use Rattle.cf_types.specs.declared.ty.Ty.TheVariants as ty
use Rattle.cf_types.specs.Table.{IsTable, NamesBelow}
use Rattle.cf_classes.specs.Layout.{Extent, extent, size_step}
use Rattle.cf_classes.proofs.TypeSizes.{extent-at}
use Rattle.cf_convert.specs.Constness.{type_at}
use Rattle.cf_core.specs.FromTypes.{Tables, type_of, type_step, fun_type, taking}
use Rattle.cf_core.specs.Size.{size}
use Rattle.cf_core.specs.Types.{SourceType, gives}
use Rattle.cf_core.specs.Valid.{is_complete}
use Rattle.cf_elab.specs.Complete.{most_bytes}
use Rattle.cf_elab_env.specs.Holds.{HasNoClass, without_class}
use Rattle.cf_elab_env.proofs.Growth.{here}
use Rattle.cf_elab_env.proofs.Sorts.{below_at, no_class_at}
use Rattle.cf_elab_valid.proofs.Trees.{tree-at}
use Rattle.cf_elab_valid_files.specs.File.Laws.{WholeElements}

-- a tree of at most so many bytes as a type may have, and of so many where objects of it can be made
record Takes (x : SourceType) (bytes : ℕ) : Type 0 where
  pub small : size [] x ≤ most_bytes
  pub same : is_complete [] x ≡ true → size [] x ≡ bytes

-- a function takes one byte, and no object is one
function-takes : (ps : List SourceType) (r : SourceType) (c : Bool) (bytes : ℕ) → Takes (taking ps (gives r c)) bytes
function-takes [] r c bytes = record { small = lit≤ tt; same = λ is. absurd (true≢false (sym is)) }
function-takes (p ∷ ps) r c bytes = record { small = lit≤ tt; same = λ is. absurd (true≢false (sym is)) }

module _ (T : Tables) (well : IsTable T.types) (plain : HasNoClass T.types) (elements : WholeElements T) (small : (t : ℕ) → t < length T.types.types → (extent T.types [] t).size ≤ most_bytes) where
  abbrev tree : ℕ → SourceType
  tree t = type_of T t

  abbrev bytes : ℕ → ℕ
  bytes t = (extent T.types [] t).size

  fun-takes : (o : Option Fun) (n : ℕ) → Takes (fun_type tree o) n
  fun-takes None n = record { small = lit≤ tt; same = λ is. absurd (true≢false (sym is)) }
  fun-takes (Some f) n = function-takes (map tree f.params) (tree f.result) f.is_const n

  step : (classes : ℕ → Extent) (t : ℕ) (v : Ty) → slice_get T.types.types t ≡ Some v → IsTrue (without_class v) → NamesBelow t v → (size_step classes (extent T.types []) v).size ≤ most_bytes
      → ((u : ℕ) → u < t → Takes (tree u) (bytes u)) → Takes (type_step T tree v) (size_step classes (extent T.types []) v).size
  step classes t ty.Void at c below most each = record { small = lit≤ tt; same = λ is. absurd (true≢false (sym is)) }
  step classes t (ty.Int k) at c below most each = record { small = most; same = λ is. refl }
  step classes t (ty.Enum n) at c below most each = record { small = most; same = λ is. refl }
  step classes t (ty.Class n) at c below most each = absurd (true≢false (sym c))
  step classes t (ty.Ptr u) at c below most each = record { small = most; same = λ is. refl }
  step classes t (ty.Ref u) at c below most each = record { small = most; same = λ is. refl }
  step classes t (ty.Array u n) at c below most each =
      let one = (each u below).same (elements t u n at) in
      let all : n * size [] (tree u) ≡ bytes u * n = ap (λ m. n * m) one ∙ mul_comm n (bytes u) in record { small = subst (λ m. m ≤ most_bytes) (sym all) most; same = λ is. all }
  step classes t (ty.Fun f) at c below most each = fun-takes (slice_get T.types.funs f) 0
  step classes t (ty.MemData n m) at c below most each = absurd (true≢false (sym c))
  step classes t (ty.MemFun n m) at c below most each = absurd (true≢false (sym c))
  step classes t (ty.Const u) at c below most each = let k = each u below in record { small = k.small; same = λ is. k.same is }

  takes-below : (n t : ℕ) → t < n → t < length T.types.types → Takes (tree t) (bytes t)
  takes-below zero t before k = absurd (omega arith)
  takes-below (suc n) t before k =
      let v = type_at T.types t in
      let at : slice_get T.types.types t ≡ Some v = here T.types t k in
      let below = below_at T.types t v well at in
      let same = extent-at T.types t v at below in
      subst (λ x. Takes x (bytes t)) (sym (tree-at T well t v at))
      (subst (λ (x : Extent). Takes (type_step T tree v) x.size) (sym same)
      (step _ t v at (no_class_at T.types t v plain at) below (subst (λ (x : Extent). x.size ≤ most_bytes) same (small t k)) (λ u lt. takes-below n u (omega arith) (omega arith))))

  pub size-small : (t : ℕ) → t < length T.types.types → size [] (tree t) ≤ most_bytes
  size-small t k = (takes-below (t + 1) t (omega arith) k).small
