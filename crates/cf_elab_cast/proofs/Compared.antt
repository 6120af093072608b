-- Two types are compared by what they are made of.
use Rattle.std.proofs.Common.{◌≡◌, ℕ, ◌<◌, ◌≤◌, ◌==◌, Bool, true, false, ◌&&◌, if◌then◌else◌, List, [], ◌∷◌, length, map, Option, None, Some, slice_get, get_or, All, IsTrue, refl, sym, ap, subst, ◌∙◌, true≢false, arith}
use Rattle.std.proofs.lemmas.List.Elements.{All-head, All-tail}
use Rattle.std.proofs.lemmas.Option.{slice_get-get_or}
use Rattle.cf_base.specs.declared.kind.Kind.{Kind}
use Rattle.cf_types.specs.declared.ty.Fun.{Fun}
use Rattle.cf_types.specs.declared.ty.Ty.{Ty}
use Rattle.cf_types.specs.declared.ty.Ty.TheVariants as ty
use Rattle.cf_types.specs.Table.{IsTable, Names, parts, parts_of_fun}
use Rattle.cf_classes.proofs.Trees.{of_type-at}
use Rattle.cf_convert.specs.Constness.{type_at, bare}
use Rattle.cf_core.specs.FromTypes.{Tables, class_code, type_of, type_step, fun_type, taking}
use Rattle.cf_core.specs.Types.{SourceType, function_member, void, takes, gives, type_eq, without_const}
use Rattle.cf_elab.specs.Env.{Env}
use Rattle.cf_elab_env.specs.Holds.{IsEnv, IsType, EnumGiven, without_class}
use Rattle.cf_elab_env.proofs.Bare.{bare_bare}
use Rattle.cf_elab_env.proofs.Growth.{bare_const, bare-known, here}
use Rattle.cf_elab_env.proofs.Sorts.{at_place, no_class_at}
use Rattle.cf_elab_cast.specs.declared.same.SameIf.{SameIf}
use Rattle.cf_elab_cast.specs.declared.same.SameIf.TheVariants as same_by
use Rattle.cf_elab_cast.specs.Same.{same, same_enums, same_params, same_funs, same_functions, same_if, answered, Below}

-- ---- types as trees without const

abbrev tables : Env → Tables
tables env = record { types = env.types; classes = env.classes }

abbrev tree : Env → ℕ → SourceType
tree env t = without_const (type_of (tables env) t)

-- the tree of a type by what it is made of
abbrev tree_of : Env → Ty → SourceType
tree_of env v = without_const (type_step (tables env) (type_of (tables env)) v)

-- the parts of a type stand before it
Parts : Env → ℕ → Ty → Type 0
Parts env t v = Names env.types.funs t (length env.types.funs) v

map_same : (f g : ℕ → SourceType) (t : ℕ) (ps : List ℕ) → ((u : ℕ) → u < t → f u ≡ g u) → All (λ p. p < t) ps → map f ps ≡ map g ps
map_same f g t [] same below = refl
map_same f g t (p ∷ ps) same below =
    ap (λ x. x ∷ map f ps) (same p (All-head (λ p. p < t) p ps below)) ∙ ap (λ xs. g p ∷ xs) (map_same f g t ps same (All-tail (λ p. p < t) p ps below))

fun_same : (f g : ℕ → SourceType) (t : ℕ) (o : Option Fun) → ((u : ℕ) → u < t → f u ≡ g u) → All (λ p. p < t) (parts_of_fun o) → fun_type f o ≡ fun_type g o
fun_same f g t None same below = refl
fun_same f g t (Some fun) same below =
    let ps = fun.params in
    ap (λ ts. taking ts (gives (f fun.result) fun.is_const)) (map_same f g t ps same (All-tail (λ p. p < t) fun.result ps below))
    ∙ ap (λ r. taking (map g ps) (gives r fun.is_const)) (same fun.result (All-head (λ p. p < t) fun.result ps below))

step_same : (T : Tables) (f g : ℕ → SourceType) (t : ℕ) (v : Ty) → ((u : ℕ) → u < t → f u ≡ g u) → All (λ p. p < t) (parts T.types.funs v) → type_step T f v ≡ type_step T g v
step_same T f g t ty.Void same below = refl
step_same T f g t (ty.Int k) same below = refl
step_same T f g t (ty.Enum e) same below = refl
step_same T f g t (ty.Class c) same below = refl
step_same T f g t (ty.Ptr u) same below = ap (λ x. type_step T (λ _. x) (ty.Ptr u)) (same u (All-head (λ p. p < t) u [] below))
step_same T f g t (ty.Ref u) same below = ap (λ x. type_step T (λ _. x) (ty.Ref u)) (same u (All-head (λ p. p < t) u [] below))
step_same T f g t (ty.Array u n) same below = ap (λ x. type_step T (λ _. x) (ty.Array u n)) (same u (All-head (λ p. p < t) u [] below))
step_same T f g t (ty.Fun h) same below = fun_same f g t (slice_get T.types.funs h) same below
step_same T f g t (ty.MemData c u) same below = ap (λ x. type_step T (λ _. x) (ty.MemData c u)) (same u (All-head (λ p. p < t) u [] below))
step_same T f g t (ty.MemFun c h) same below = ap (λ x. function_member (class_code T.classes c) x) (fun_same f g t (slice_get T.types.funs h) same below)
step_same T f g t (ty.Const u) same below = ap (λ x. type_step T (λ _. x) (ty.Const u)) (same u (All-head (λ p. p < t) u [] below))

module _ (env : Env) (table : IsTable env.types) where
  tree_at : (t : ℕ) (v : Ty) → slice_get env.types.types t ≡ Some v → tree env t ≡ tree_of env v
  tree_at t v h =
      let r = of_type-at void (type_step (tables env)) env.types t v h in
      ap without_const (r.2 ∙ step_same (tables env) r.0 (type_of (tables env)) t v r.1 (table.earlier t v h).parts_known)

  module _ (t : ℕ) (known : IsType env.types t) where
    tree_bare : tree env t ≡ tree env (bare env.types t)
    tree_bare = by (type_at env.types t) refl
      where
        plain : bare env.types t ≡ t → tree env t ≡ tree env (bare env.types t)
        plain e = ap (tree env) (sym e)

        by : (v : Ty) → type_at env.types t ≡ v → tree env t ≡ tree env (bare env.types t)
        by (ty.Const u) e = tree_at t (ty.Const u) (here env.types t known ∙ ap Some e) ∙ ap (tree env) (sym (bare_const env.types t u e))
        by ty.Void e = plain (rw e refl)
        by (ty.Int k) e = plain (rw e refl)
        by (ty.Enum n) e = plain (rw e refl)
        by (ty.Class c) e = plain (rw e refl)
        by (ty.Ptr x) e = plain (rw e refl)
        by (ty.Ref x) e = plain (rw e refl)
        by (ty.Array x n) e = plain (rw e refl)
        by (ty.Fun f) e = plain (rw e refl)
        by (ty.MemData c x) e = plain (rw e refl)
        by (ty.MemFun c f) e = plain (rw e refl)

    under : slice_get env.types.types (bare env.types t) ≡ Some (type_at env.types (bare env.types t))
    under = here env.types (bare env.types t) (bare-known env.types t table known)

    -- the tree of a type by what it is without the const on it, which is no const
    tree_is : tree env t ≡ tree_of env (type_at env.types (bare env.types t))
    tree_is = tree_bare ∙ tree_at (bare env.types t) (type_at env.types (bare env.types t)) under

    names_under : Parts env (bare env.types t) (type_at env.types (bare env.types t))
    unfolding Parts
    names_under = table.earlier (bare env.types t) (type_at env.types (bare env.types t)) under

    no_const : (u : ℕ) → type_at env.types (bare env.types t) ≡ ty.Const u → ⊥
    no_const u e =
        let b = bare env.types t in
        let names = table.earlier b (ty.Const u) (under ∙ ap Some e) in
        let below : u < b = All-head (λ p. p < b) u [] names.parts_known in
        let same : u ≡ b = sym (bare_const env.types b u e) ∙ bare_bare env.types table t known in
        absurd (omega arith)

    bare_below : bare env.types t ≤ t
    bare_below = by (type_at env.types t) refl
      where
        by : (v : Ty) → type_at env.types t ≡ v → bare env.types t ≤ t
        by (ty.Const u) e =
            let names = table.earlier t (ty.Const u) (here env.types t known ∙ ap Some e) in
            let below : u < t = All-head (λ p. p < t) u [] names.parts_known in
            let same = bare_const env.types t u e in
            omega arith
        by ty.Void e = rw e (omega arith)
        by (ty.Int k) e = rw e (omega arith)
        by (ty.Enum n) e = rw e (omega arith)
        by (ty.Class c) e = rw e (omega arith)
        by (ty.Ptr x) e = rw e (omega arith)
        by (ty.Ref x) e = rw e (omega arith)
        by (ty.Array x n) e = rw e (omega arith)
        by (ty.Fun f) e = rw e (omega arith)
        by (ty.MemData c x) e = rw e (omega arith)
        by (ty.MemFun c f) e = rw e (omega arith)

-- ---- two types that are neither const nor a class

and-true : (b : Bool) → b && true ≡ b
and-true true = refl
and-true false = refl

and-assoc : (a b c : Bool) → (a && b) && c ≡ a && (b && c)
and-assoc true b c = refl
and-assoc false b c = refl

module _ (env : Env) where
  abbrev signature : List ℕ → ℕ → Bool → SourceType
  signature ps r c = without_const (taking (map (type_of (tables env)) ps) (gives (type_of (tables env) r) c))

  same_signatures : (ps qs : List ℕ) (r s : ℕ) (c d : Bool) → same_params env ps qs && same env r s ≡ type_eq (signature ps r c) (signature qs s d)
  unfolding same
  same_signatures [] [] r s c d = sym (and-true (type_eq (tree env r) (tree env s)))
  same_signatures [] (q ∷ qs) r s c d = refl
  same_signatures (p ∷ ps) [] r s c d = refl
  same_signatures (p ∷ ps) (q ∷ qs) r s c d =
      and-assoc (same env p q) (same_params env ps qs) (same env r s) ∙ ap (λ b. same env p q && b) (same_signatures ps qs r s c d)

  some_fun : (f : ℕ) → f < length env.types.funs → (fun : Fun) × (slice_get env.types.funs f ≡ Some fun)
  some_fun f h =
      let x : Fun = record { result = 0; params = []; is_const = false } in
      (get_or env.types.funs f x, slice_get-get_or env.types.funs f x h)

  funs_decided : (f g : ℕ) → f < length env.types.funs → g < length env.types.funs → same_functions env f g ≡ type_eq (tree_of env (ty.Fun f)) (tree_of env (ty.Fun g))
  funs_decided f g h k =
      let x = some_fun f h in
      let y = some_fun g k in
      let trees : Option Fun → Option Fun → Bool = λ o q. type_eq (without_const (fun_type (type_of (tables env)) o)) (without_const (fun_type (type_of (tables env)) q)) in
      ap (λ o. same_funs env o (slice_get env.types.funs g)) x.1 ∙ ap (same_funs env (Some x.0)) y.1
      ∙ same_signatures x.0.params y.0.params x.0.result y.0.result x.0.is_const y.0.is_const
      ∙ sym (ap (λ o. trees o (slice_get env.types.funs g)) x.1 ∙ ap (trees (Some x.0)) y.1)

  -- a function is no other type
  abbrev is_function : SourceType → Bool
  is_function (takes p t) = true
  is_function (gives t c) = true
  is_function other = false

  signature_right : (s : SourceType) → is_function s ≡ false → (ps : List ℕ) (r : ℕ) (c : Bool) → type_eq s (signature ps r c) ≡ false
  signature_right (takes p t) h ps r c = absurd (true≢false h)
  signature_right (gives t d) h ps r c = absurd (true≢false h)
  signature_right s h [] r c = refl
  signature_right s h (p ∷ ps) r c = refl

  signature_left : (s : SourceType) → is_function s ≡ false → (ps : List ℕ) (r : ℕ) (c : Bool) → type_eq (signature ps r c) s ≡ false
  signature_left (takes p t) h ps r c = absurd (true≢false h)
  signature_left (gives t d) h ps r c = absurd (true≢false h)
  signature_left s h [] r c = refl
  signature_left s h (p ∷ ps) r c = refl

  fun_tree : Option Fun → SourceType
  fun_tree o = without_const (fun_type (type_of (tables env)) o)

  no_fun_left : (v : Ty) (f : ℕ) → is_function (tree_of env v) ≡ false → f < length env.types.funs → false ≡ type_eq (tree_of env v) (tree_of env (ty.Fun f))
  unfolding fun_tree
  no_fun_left v f h k =
      let x = some_fun f k in
      sym (ap (λ o. type_eq (tree_of env v) (fun_tree o)) x.1 ∙ signature_right (tree_of env v) h x.0.params x.0.result x.0.is_const)

  no_fun_right : (f : ℕ) (v : Ty) → is_function (tree_of env v) ≡ false → f < length env.types.funs → false ≡ type_eq (tree_of env (ty.Fun f)) (tree_of env v)
  unfolding fun_tree
  no_fun_right f v h k =
      let x = some_fun f k in
      sym (ap (λ o. type_eq (fun_tree o) (tree_of env v)) x.1 ∙ signature_left (tree_of env v) h x.0.params x.0.result x.0.is_const)

  arrays_decided : (b : Bool) (t u : ℕ) → answered env (if b then same_by.Types t u else same_by.Known false) ≡ type_eq (tree env t) (tree env u) && b
  unfolding same
  arrays_decided true t u = sym (and-true (type_eq (tree env t) (tree env u)))
  arrays_decided false t u = sym (and-false (type_eq (tree env t) (tree env u)))
    where
      and-false : (b : Bool) → b && false ≡ false
      and-false true = refl
      and-false false = refl

  NoConst : Ty → Type 0
  NoConst v = (u : ℕ) → v ≡ ty.Const u → ⊥

  decided : (t u : ℕ) (v w : Ty) → IsTrue (without_class v) → IsTrue (without_class w) → NoConst v → NoConst w → Parts env t v → Parts env u w
      → answered env (same_if v w) ≡ type_eq (tree_of env v) (tree_of env w)
  unfolding same same_enums NoConst Parts
  decided t u (ty.Class c) w p q n m e f = absurd (true≢false (sym p))
  decided t u (ty.MemData c x) w p q n m e f = absurd (true≢false (sym p))
  decided t u (ty.MemFun c x) w p q n m e f = absurd (true≢false (sym p))
  decided t u (ty.Const x) w p q n m e f = absurd (n x refl)
  decided t u v (ty.Class c) p q n m e f = absurd (true≢false (sym q))
  decided t u v (ty.MemData c x) p q n m e f = absurd (true≢false (sym q))
  decided t u v (ty.MemFun c x) p q n m e f = absurd (true≢false (sym q))
  decided t u v (ty.Const x) p q n m e f = absurd (m x refl)
  decided t u (ty.Array x i) (ty.Array y j) p q n m e f = arrays_decided (i == j) x y
  decided t u (ty.Fun x) (ty.Fun y) p q n m e f =
      funs_decided x y (All-head (λ f. f < length env.types.funs) x [] e.fun_known) (All-head (λ f. f < length env.types.funs) y [] f.fun_known)
  decided t u v (ty.Fun y) p q n m e f = no_fun_left v y refl (All-head (λ f. f < length env.types.funs) y [] f.fun_known)
  decided t u (ty.Fun x) w p q n m e f = no_fun_right x w refl (All-head (λ f. f < length env.types.funs) x [] e.fun_known)
  decided t u v w p q n m e f = refl

  -- what is asked for stands before them
  pairs : (t u a b x y : ℕ) → a ≤ t → b ≤ u → All (λ p. p < a) (x ∷ []) → All (λ p. p < b) (y ∷ []) → (x < t) × (y < u)
  pairs t u a b x y le ge e f = let h = All-head (λ p. p < a) x [] e in let k = All-head (λ p. p < b) y [] f in (omega arith, omega arith)

  All-before : (t b : ℕ) (ps : List ℕ) → b ≤ t → All (λ p. p < b) ps → All (λ p. p < t) ps
  All-before t b ps le all = λ k d w. let h = all k d w in omega arith

  void_below : (t u : ℕ) (w : Ty) → Below env t u (same_if ty.Void w)
  void_below t u ty.Void = tt
  void_below t u w = tt

  integer_below : (t u : ℕ) (k : Kind) (w : Ty) → Below env t u (same_if (ty.Int k) w)
  integer_below t u k (ty.Int l) = tt
  integer_below t u k w = tt

  below : (t u a b : ℕ) (v w : Ty) → a ≤ t → b ≤ u → Parts env a v → Parts env b w → EnumGiven (length env.classes.enums) v → EnumGiven (length env.classes.enums) w
      → Below env t u (same_if v w)
  unfolding Parts
  below t u a b ty.Void w le ge e f g h = void_below t u w
  below t u a b (ty.Int k) w le ge e f g h = integer_below t u k w
  below t u a b (ty.Enum i) (ty.Enum j) le ge e f g h = (g, h)
  below t u a b (ty.Ptr x) (ty.Ptr y) le ge e f g h = pairs t u a b x y le ge e.parts_known f.parts_known
  below t u a b (ty.Ref x) (ty.Ref y) le ge e f g h = pairs t u a b x y le ge e.parts_known f.parts_known
  below t u a b (ty.Array x i) (ty.Array y j) le ge e f g h = by (i == j)
    where
      by : (c : Bool) → Below env t u (if c then same_by.Types x y else same_by.Known false)
      by true = pairs t u a b x y le ge e.parts_known f.parts_known
      by false = tt
  below t u a b (ty.Fun x) (ty.Fun y) le ge e f g h = record {
    first = All-head (λ f. f < length env.types.funs) x [] e.fun_known;
    second = All-head (λ f. f < length env.types.funs) y [] f.fun_known;
    first_parts = All-before t a (parts_of_fun (slice_get env.types.funs x)) le e.parts_known;
    second_parts = All-before u b (parts_of_fun (slice_get env.types.funs y)) ge f.parts_known;
  }
  below t u a b v w le ge e f g h = tt

module _ (env : Env) (t u : ℕ) (v w : Ty) (r : SameIf) (e : IsEnv env) (first : IsType env.types t) (second : IsType env.types u)
    (v_is : v ≡ type_at env.types (bare env.types t)) (w_is : w ≡ type_at env.types (bare env.types u)) (r_is : r ≡ same_if v w) where
  abbrev under_t : Ty
  under_t = type_at env.types (bare env.types t)

  abbrev under_u : Ty
  under_u = type_at env.types (bare env.types u)

  decided_is : r ≡ same_if under_t under_u
  decided_is = r_is ∙ ap (λ v. same_if v w) v_is ∙ ap (same_if under_t) w_is

  pub compared_value : answered env r ≡ same env t u
  unfolding same NoConst
  compared_value =
      ap (answered env) decided_is
      ∙ decided env (bare env.types t) (bare env.types u) under_t under_u
      (no_class_at env.types (bare env.types t) under_t e.no_class_type (under env e.table t first)) (no_class_at env.types (bare env.types u) under_u e.no_class_type (under env e.table u second))
      (no_const env e.table t first) (no_const env e.table u second) (names_under env e.table t first) (names_under env e.table u second)
      ∙ sym (ap (λ x. type_eq x (tree env u)) (tree_is env e.table t first) ∙ ap (type_eq (tree_of env under_t)) (tree_is env e.table u second))

  pub compared_below : Below env t u r
  compared_below =
      subst (Below env t u) (sym decided_is)
      (below env t u (bare env.types t) (bare env.types u) under_t under_u (bare_below env e.table t first) (bare_below env e.table u second)
      (names_under env e.table t first) (names_under env e.table u second)
      (at_place (EnumGiven (length env.classes.enums)) env.types.types (bare env.types t) under_t e.enums (under env e.table t first))
      (at_place (EnumGiven (length env.classes.enums)) env.types.types (bare env.types u) under_u e.enums (under env e.table u second)))
