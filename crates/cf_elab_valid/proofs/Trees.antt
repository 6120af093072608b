-- Types as trees: what a table keeps is kept by its trees, and the sort of a type is that of its tree.
use Rattle.std.proofs.Common.{◌≡◌, ℕ, zero, suc, ◌+◌, ◌<◌, Bool, true, false, List, [], ◌∷◌, length, map, Option, None, Some, slice_get, get_or, All, IsTrue, refl, sym, ap, ◌∙◌, true≢false, arith}
use Rattle.std.proofs.lemmas.List.Elements.{All-head, All-tail}
use Rattle.std.proofs.lemmas.Option.{slice_get-get_or, slice_get_within}
use Rattle.cf_types.specs.declared.ty.Fun.{Fun}
use Rattle.cf_types.specs.declared.ty.Ty.{Ty}
use Rattle.cf_types.specs.declared.ty.Ty.TheVariants as ty
use Rattle.cf_types.specs.Table as table
use Rattle.cf_types.specs.Table.{IsTable, Names, NamesBelow, parts, parts_of_fun, passes, passing}
use Rattle.cf_classes.proofs.Trees.{of_type-at}
use Rattle.cf_convert.specs.Constness.{type_at, bare}
use Rattle.cf_core.specs.FromTypes.{Tables, class_code, type_of, type_step, fun_type, taking}
use Rattle.cf_core.specs.Types.{SourceType, void, pointer, reference, array, gives, data_member, function_member, const, without_const, is_void}
use Rattle.cf_core.specs.Places.{is_reference}
use Rattle.cf_core.specs.Typing.{is_function}
use Rattle.cf_core_typed.specs.Same.{Same, is_bare, takes_const, is_normal}
use Rattle.cf_core_typed.proofs.Same.{and-both, function-normal, void-plain}
use Rattle.cf_elab.specs.Operand.{sort_of, ty_sort, pointer_sort}
use Rattle.cf_elab_env.specs.Holds.{HasNoClass, without_class}
use Rattle.cf_elab_env.proofs.Bare.{bare_bare}
use Rattle.cf_elab_env.proofs.Growth.{bare_const, bare-known, here}
use Rattle.cf_elab_env.proofs.Sorts.{no_class_at, below_at, fun_known}
use Rattle.cf_elab_valid.specs.Sorts.{NoneToReference, SortIs}

map_same : (f g : ℕ → SourceType) (t : ℕ) (ps : List ℕ) → ((u : ℕ) → u < t → f u ≡ g u) → All (λ p. p < t) ps → map f ps ≡ map g ps
map_same f g t [] same below = refl
map_same f g t (p ∷ ps) same below =
    ap (λ x. x ∷ map f ps) (same p (All-head (λ p. p < t) p ps below)) ∙ ap (λ xs. g p ∷ xs) (map_same f g t ps same (All-tail (λ p. p < t) p ps below))

pub fun_same : (f g : ℕ → SourceType) (t : ℕ) (o : Option Fun) → ((u : ℕ) → u < t → f u ≡ g u) → All (λ p. p < t) (parts_of_fun o) → fun_type f o ≡ fun_type g o
fun_same f g t None same below = refl
fun_same f g t (Some fun) same below =
    let ps = fun.params in
    ap (λ ts. taking ts (gives (f fun.result) fun.is_const)) (map_same f g t ps same (All-tail (λ p. p < t) fun.result ps below))
    ∙ ap (λ r. taking (map g ps) (gives r fun.is_const)) (same fun.result (All-head (λ p. p < t) fun.result ps below))

pub step_same : (T : Tables) (f g : ℕ → SourceType) (t : ℕ) (v : Ty) → ((u : ℕ) → u < t → f u ≡ g u) → All (λ p. p < t) (parts T.types.funs v) → type_step T f v ≡ type_step T g v
step_same T f g t ty.Void same below = refl
step_same T f g t (ty.Int k) same below = refl
step_same T f g t (ty.Enum e) same below = refl
step_same T f g t (ty.Class c) same below = refl
step_same T f g t (ty.Ptr u) same below = ap pointer (same u (All-head (λ p. p < t) u [] below))
step_same T f g t (ty.Ref u) same below = ap reference (same u (All-head (λ p. p < t) u [] below))
step_same T f g t (ty.Array u n) same below = ap (λ x. array x n) (same u (All-head (λ p. p < t) u [] below))
step_same T f g t (ty.Fun h) same below = fun_same f g t (slice_get T.types.funs h) same below
step_same T f g t (ty.MemData c u) same below = ap (data_member (class_code T.classes c)) (same u (All-head (λ p. p < t) u [] below))
step_same T f g t (ty.MemFun c h) same below = ap (function_member (class_code T.classes c)) (fun_same f g t (slice_get T.types.funs h) same below)
step_same T f g t (ty.Const u) same below = ap const (same u (All-head (λ p. p < t) u [] below))

-- ---- a function type

taking-normal : (f : ℕ → SourceType) (ps : List ℕ) (r : SourceType) → All (λ p. is_normal (f p) ≡ true) ps → is_normal r ≡ true → is_normal (taking (map f ps) r) ≡ true
taking-normal f [] r all h = h
taking-normal f (p ∷ ps) r all h =
    and-both (is_normal (f p)) (is_normal (taking (map f ps) r)) (All-head (λ p. is_normal (f p) ≡ true) p ps all)
    (taking-normal f ps r (All-tail (λ p. is_normal (f p) ≡ true) p ps all) h)

fun-normal : (f : ℕ → SourceType) (o : Option Fun) → All (λ p. is_normal (f p) ≡ true) (parts_of_fun o) → is_normal (fun_type f o) ≡ true
fun-normal f None all = refl
fun-normal f (Some fun) all =
    taking-normal f fun.params (gives (f fun.result) fun.is_const) (All-tail (λ p. is_normal (f p) ≡ true) fun.result fun.params all)
    (All-head (λ p. is_normal (f p) ≡ true) fun.result fun.params all)

taking-function : (ps : List SourceType) (r : SourceType) (c : Bool) → is_function (taking ps (gives r c)) ≡ true
taking-function [] r c = refl
taking-function (p ∷ ps) r c = refl

pub fun-function : (f : ℕ → SourceType) (fun : Fun) → is_function (fun_type f (Some fun)) ≡ true
fun-function f fun = taking-function (map f fun.params) (f fun.result) fun.is_const

into : (P Q : ℕ → Type 0) (xs : List ℕ) → ((x : ℕ) → P x → Q x) → All P xs → All Q xs
into P Q [] f all = λ i d w. absurd (omega arith)
into P Q (x ∷ xs) f all = λ k d w. f (get_or (x ∷ xs) k d) (all k d w)

module _ (T : Tables) (well : IsTable T.types) where
  abbrev tree : ℕ → SourceType
  tree t = type_of T t

  abbrev Known : ℕ → Type 0
  Known t = t < length T.types.types

  -- a type is made of the types that it names
  pub tree-at : (t : ℕ) (v : Ty) → slice_get T.types.types t ≡ Some v → tree t ≡ type_step T tree v
  tree-at t v h =
      let r = of_type-at void (type_step T) T.types t v h in
      r.2 ∙ step_same T r.0 tree t v r.1 (well.earlier t v h).parts_known

  pub tree-is : (t : ℕ) → Known t → tree t ≡ type_step T tree (type_at T.types t)
  tree-is t k = tree-at t (type_at T.types t) (here T.types t k)

  -- ---- const stands where it may

  under_const : (v : Ty) → table.takes_const v ≡ true → takes_const (type_step T tree v) ≡ true
  under_const ty.Void h = refl
  under_const (ty.Int k) h = refl
  under_const (ty.Enum e) h = refl
  under_const (ty.Class c) h = refl
  under_const (ty.Ptr t) h = refl
  under_const (ty.MemData c t) h = refl
  under_const (ty.MemFun c f) h = refl
  under_const (ty.Ref t) h = absurd (true≢false (sym h))
  under_const (ty.Array t n) h = absurd (true≢false (sym h))
  under_const (ty.Fun f) h = absurd (true≢false (sym h))
  under_const (ty.Const t) h = absurd (true≢false (sym h))

  step-normal : (t : ℕ) (v : Ty) → slice_get T.types.types t ≡ Some v → All (λ p. is_normal (tree p) ≡ true) (parts T.types.funs v) → is_normal (type_step T tree v) ≡ true
  step-normal t ty.Void h all = refl
  step-normal t (ty.Int k) h all = refl
  step-normal t (ty.Enum e) h all = refl
  step-normal t (ty.Class c) h all = refl
  step-normal t (ty.Ptr u) h all = All-head (λ p. is_normal (tree p) ≡ true) u [] all
  step-normal t (ty.Ref u) h all = All-head (λ p. is_normal (tree p) ≡ true) u [] all
  step-normal t (ty.Array u n) h all = All-head (λ p. is_normal (tree p) ≡ true) u [] all
  step-normal t (ty.Fun f) h all = fun-normal tree (slice_get T.types.funs f) all
  step-normal t (ty.MemData c u) h all = All-head (λ p. is_normal (tree p) ≡ true) u [] all
  step-normal t (ty.MemFun c f) h all = fun-normal tree (slice_get T.types.funs f) all
  step-normal t (ty.Const u) h all =
      let below : u < t = below_at T.types t (ty.Const u) well h in
      let inside : Known u = let k = slice_get_within T.types.types t (ty.Const u) h in omega arith in
      let taken : table.takes_const (type_at T.types u) ≡ true = ap (passing table.takes_const) (sym (here T.types u inside)) ∙ well.normal t (ty.Const u) h in
      and-both (takes_const (tree u)) (is_normal (tree u)) (ap takes_const (tree-is u inside) ∙ under_const (type_at T.types u) taken)
      (All-head (λ p. is_normal (tree p) ≡ true) u [] all)

  normal-below : (n t : ℕ) → t < n → Known t → is_normal (tree t) ≡ true
  normal-below zero t before k = absurd (omega arith)
  normal-below (suc n) t before k =
      let v = type_at T.types t in
      let h = here T.types t k in
      ap is_normal (tree-at t v h)
      ∙ step-normal t v h (into (λ p. p < t) (λ p. is_normal (tree p) ≡ true) (parts T.types.funs v) (λ p below. normal-below n p (omega arith) (omega arith)) (well.earlier t v h).parts_known)

  pub tree-normal : (t : ℕ) → Known t → is_normal (tree t) ≡ true
  tree-normal t k = normal-below (t + 1) t (omega arith) k

  -- ---- a type without the const on it

  module _ (t : ℕ) (known : Known t) where
    pub bare-inside : Known (bare T.types t)
    bare-inside = bare-known T.types t well known

    same_if : bare T.types t ≡ t → Same (tree t) (tree (bare T.types t))
    same_if e = ap (λ u. without_const (tree u)) (sym e)

    pub tree-bare : Same (tree t) (tree (bare T.types t))
    tree-bare = by (type_at T.types t) refl
      where
        by : (v : Ty) → type_at T.types t ≡ v → Same (tree t) (tree (bare T.types t))
        by (ty.Const u) e = ap without_const (tree-at t (ty.Const u) (here T.types t known ∙ ap Some e)) ∙ ap (λ u. without_const (tree u)) (sym (bare_const T.types t u e))
        by ty.Void e = same_if (rw e refl)
        by (ty.Int k) e = same_if (rw e refl)
        by (ty.Enum n) e = same_if (rw e refl)
        by (ty.Class c) e = same_if (rw e refl)
        by (ty.Ptr x) e = same_if (rw e refl)
        by (ty.Ref x) e = same_if (rw e refl)
        by (ty.Array x n) e = same_if (rw e refl)
        by (ty.Fun f) e = same_if (rw e refl)
        by (ty.MemData c x) e = same_if (rw e refl)
        by (ty.MemFun c f) e = same_if (rw e refl)

    no_const : (u : ℕ) → type_at T.types (bare T.types t) ≡ ty.Const u → ⊥
    no_const u e =
        let b = bare T.types t in
        let below : u < b = below_at T.types b (ty.Const u) well (here T.types b bare-inside ∙ ap Some e) in
        let same : u ≡ b = sym (bare_const T.types b u e) ∙ bare_bare T.types well t known in
        absurd (omega arith)

    -- the tree of a type by what it is without its const
    pub tree-form : (v : Ty) → type_at T.types (bare T.types t) ≡ v → Same (tree t) (type_step T tree v)
    tree-form v e = tree-bare ∙ ap without_const (tree-at (bare T.types t) v (here T.types (bare T.types t) bare-inside ∙ ap Some e))

    bare_tree : (v : Ty) → type_at T.types (bare T.types t) ≡ v → is_bare (type_step T tree v) ≡ true
    bare_tree ty.Void e = refl
    bare_tree (ty.Int k) e = refl
    bare_tree (ty.Enum n) e = refl
    bare_tree (ty.Class c) e = refl
    bare_tree (ty.Ptr u) e = refl
    bare_tree (ty.Ref u) e = refl
    bare_tree (ty.Array u n) e = refl
    bare_tree (ty.Fun f) e = fun_bare (slice_get T.types.funs f)
      where
        taking_bare : (ps : List SourceType) (r : SourceType) (c : Bool) → is_bare (taking ps (gives r c)) ≡ true
        taking_bare [] r c = refl
        taking_bare (p ∷ ps) r c = refl

        fun_bare : (o : Option Fun) → is_bare (fun_type tree o) ≡ true
        fun_bare None = refl
        fun_bare (Some fun) = taking_bare (map tree fun.params) (tree fun.result) fun.is_const
    bare_tree (ty.MemData c u) e = refl
    bare_tree (ty.MemFun c f) e = refl
    bare_tree (ty.Const u) e = absurd (no_const u e)

    pub bare-tree : is_bare (tree (bare T.types t)) ≡ true
    bare-tree = ap is_bare (tree-is (bare T.types t) bare-inside) ∙ bare_tree (type_at T.types (bare T.types t)) refl

    -- a function type is a tree that takes and gives
    pub function-form : (f : ℕ) → type_at T.types (bare T.types t) ≡ ty.Fun f → is_function (tree t) ≡ true
    function-form f e =
        let b = bare T.types t in
        let h : slice_get T.types.types b ≡ Some (ty.Fun f) = here T.types b bare-inside ∙ ap Some e in
        let inside : f < length T.types.funs = fun_known T.types b (ty.Fun f) f well h refl in
        let found = slice_get-get_or T.types.funs f (record { result = 0; params = []; is_const = false }) inside in
        let told : without_const (tree t) ≡ without_const (fun_type tree (slice_get T.types.funs f)) = tree-form (ty.Fun f) e in
        sym (function-normal (tree t) (tree-normal t known)) ∙ ap is_function (told ∙ ap (λ o. without_const (fun_type tree o)) found) ∙ plain-function (get_or T.types.funs f (record { result = 0; params = []; is_const = false }))
      where
        plain_taking : (ps : List SourceType) (r : SourceType) (c : Bool) → is_function (without_const (taking ps (gives r c))) ≡ true
        plain_taking [] r c = refl
        plain_taking (p ∷ ps) r c = refl

        plain-function : (fun : Fun) → is_function (without_const (fun_type tree (Some fun))) ≡ true
        plain-function fun = plain_taking (map tree fun.params) (tree fun.result) fun.is_const

    no_function_by : (v : Ty) → type_at T.types (bare T.types t) ≡ v → is_function (without_const (type_step T tree v)) ≡ false → is_function (tree t) ≡ false
    no_function_by v e h = sym (function-normal (tree t) (tree-normal t known)) ∙ ap is_function (tree-form v e) ∙ h

    no_void_by : (v : Ty) → type_at T.types (bare T.types t) ≡ v → is_void (without_const (type_step T tree v)) ≡ false → is_void (tree t) ≡ false
    no_void_by v e h = sym (void-plain (tree t)) ∙ ap is_void (tree-form v e) ∙ h

    pub void-form : type_at T.types (bare T.types t) ≡ ty.Void → is_void (tree t) ≡ true
    void-form e = sym (void-plain (tree t)) ∙ ap is_void (tree-form ty.Void e)

  -- no const stands on a reference
  reference-whole : (t : ℕ) → Known t → (u : ℕ) → type_at T.types (bare T.types t) ≡ ty.Ref u → tree t ≡ reference (tree u)
  reference-whole t k u e = by (type_at T.types t) refl
    where
      plain : bare T.types t ≡ t → tree t ≡ reference (tree u)
      plain same = tree-at t (ty.Ref u) (here T.types t k ∙ ap Some (ap (type_at T.types) (sym same) ∙ e))

      by : (v : Ty) → type_at T.types t ≡ v → tree t ≡ reference (tree u)
      by (ty.Const w) h =
          let at = here T.types t k ∙ ap Some h in
          let taken : passes table.takes_const T.types.types w ≡ true = well.normal t (ty.Const w) at in
          let below : w < t = below_at T.types t (ty.Const w) well at in
          let w_in : Known w = omega arith in
          let is : type_at T.types w ≡ ty.Ref u = ap (type_at T.types) (sym (bare_const T.types t w h)) ∙ e in
          absurd (true≢false (sym (ap table.takes_const (sym is) ∙ ap (passing table.takes_const) (sym (here T.types w w_in)) ∙ taken)))
      by ty.Void h = plain (rw h refl)
      by (ty.Int n) h = plain (rw h refl)
      by (ty.Enum n) h = plain (rw h refl)
      by (ty.Class c) h = plain (rw h refl)
      by (ty.Ptr x) h = plain (rw h refl)
      by (ty.Ref x) h = plain (rw h refl)
      by (ty.Array x n) h = plain (rw h refl)
      by (ty.Fun f) h = plain (rw h refl)
      by (ty.MemData c x) h = plain (rw h refl)
      by (ty.MemFun c f) h = plain (rw h refl)

  -- ---- the sort of a type is that of its tree

  pointer-is : (p : ℕ) (u : SourceType) → Known p → is_reference (tree p) ≡ false → Same u (pointer (tree p)) → SortIs T (pointer_sort p (type_at T.types (bare T.types p))) u
  pointer-is p u k r e = by (type_at T.types (bare T.types p)) refl
    where
      by : (v : Ty) → type_at T.types (bare T.types p) ≡ v → SortIs T (pointer_sort p v) u
      by ty.Void h = record { pointee = p; known = k; same = e; to_void = void-form p k h }
      by (ty.Fun f) h = record { known = k; same = e; function = function-form p k f h }
      by (ty.Int n) h = record { known = k; same = e; no_function = no_function_by p k (ty.Int n) h refl; no_void = no_void_by p k (ty.Int n) h refl; no_reference = r }
      by (ty.Enum n) h = record { known = k; same = e; no_function = no_function_by p k (ty.Enum n) h refl; no_void = no_void_by p k (ty.Enum n) h refl; no_reference = r }
      by (ty.Class n) h = record { known = k; same = e; no_function = no_function_by p k (ty.Class n) h refl; no_void = no_void_by p k (ty.Class n) h refl; no_reference = r }
      by (ty.Ptr n) h = record { known = k; same = e; no_function = no_function_by p k (ty.Ptr n) h refl; no_void = no_void_by p k (ty.Ptr n) h refl; no_reference = r }
      by (ty.Ref n) h = record { known = k; same = e; no_function = no_function_by p k (ty.Ref n) h refl; no_void = no_void_by p k (ty.Ref n) h refl; no_reference = r }
      by (ty.Array n m) h = record { known = k; same = e; no_function = no_function_by p k (ty.Array n m) h refl; no_void = no_void_by p k (ty.Array n m) h refl; no_reference = r }
      by (ty.MemData c n) h = record { known = k; same = e; no_function = no_function_by p k (ty.MemData c n) h refl; no_void = no_void_by p k (ty.MemData c n) h refl; no_reference = r }
      by (ty.MemFun c f) h = record { known = k; same = e; no_function = no_function_by p k (ty.MemFun c f) h refl; no_void = no_void_by p k (ty.MemFun c f) h refl; no_reference = r }
      by (ty.Const n) h = absurd (no_const p k n h)

  module _ (all : HasNoClass T.types) (refs : NoneToReference T) where
    pub sort-is : (t : ℕ) → Known t → SortIs T (sort_of T.types t) (tree t)
    sort-is t k = by (type_at T.types (bare T.types t)) refl
      where
        under : (v : Ty) → type_at T.types (bare T.types t) ≡ v → slice_get T.types.types (bare T.types t) ≡ Some v
        under v e = here T.types (bare T.types t) (bare-inside t k) ∙ ap Some e

        no_class : (v : Ty) → type_at T.types (bare T.types t) ≡ v → IsTrue (without_class v)
        no_class v e = no_class_at T.types (bare T.types t) v all (under v e)

        by : (v : Ty) → type_at T.types (bare T.types t) ≡ v → SortIs T (ty_sort T.types v) (tree t)
        by ty.Void e = void-form t k e
        by (ty.Int n) e = tree-form t k (ty.Int n) e
        by (ty.Enum n) e = record { name = _; same = tree-form t k (ty.Enum n) e; is = refl }
        by (ty.Ptr u) e =
            let below : u < bare T.types t = below_at T.types (bare T.types t) (ty.Ptr u) well (under (ty.Ptr u) e) in
            let u_in : Known u = let b_in = bare-inside t k in omega arith in
            pointer-is u (tree t) u_in (refs (bare T.types t) (ty.Ptr u) (under (ty.Ptr u) e)) (tree-form t k (ty.Ptr u) e)
        by (ty.Ref u) e =
            let below : u < bare T.types t = below_at T.types (bare T.types t) (ty.Ref u) well (under (ty.Ref u) e) in
            let u_in : Known u = let b_in = bare-inside t k in omega arith in
            record { known = u_in; same = reference-whole t k u e; no_reference = (refs (bare T.types t) (ty.Ref u) (under (ty.Ref u) e)).0; no_void = (refs (bare T.types t) (ty.Ref u) (under (ty.Ref u) e)).1 }
        by (ty.Array u n) e =
            let below : u < bare T.types t = below_at T.types (bare T.types t) (ty.Array u n) well (under (ty.Array u n) e) in
            let u_in : Known u = let b_in = bare-inside t k in omega arith in
            record { known = u_in; same = tree-form t k (ty.Array u n) e; no_reference = refs (bare T.types t) (ty.Array u n) (under (ty.Array u n) e) }
        by (ty.Fun f) e = function-form t k f e
        by (ty.Const u) e = absurd (no_const t k u e)
        by (ty.Class c) e = absurd (true≢false (sym (no_class (ty.Class c) e)))
        by (ty.MemData c u) e = absurd (true≢false (sym (no_class (ty.MemData c u) e)))
        by (ty.MemFun c f) e = absurd (true≢false (sym (no_class (ty.MemFun c f) e)))
