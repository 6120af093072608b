-- What a plan of an initialiser may be: each scalar by a value at its place, an array by some of its elements or by a text (8.4.1, 8.4.2).
use Rattle.std.proofs.Common.{◌≡◌, ℕ, zero, suc, true, false, nat_le, List, [], ◌∷◌, length, refl, sym, ap, ◌∙◌, true≢false}
use Rattle.cf_core.specs.Places.{is_reference}
use Rattle.cf_core.specs.Types.{SourceType, void, reference, array, const, is_void}
use Rattle.cf_core.specs.Typed.{list_starts, string_starts}
use Rattle.cf_core.specs.Typing.{Typing}
use Rattle.cf_core_typed.specs.Same.{Same, takes_const}
use Rattle.cf_elab.specs.Env.{Env}
use Rattle.cf_elab.specs.Lists.{Tree, Trees, leaf, text, branch, no_trees, trees, items, Plan, Plans, by_value, by_list, by_text, wrong, no_plans, plans}
use Rattle.cf_elab_valid.specs.Scene.{Scene, tree, scope_of, Steps, Inside}
use Rattle.cf_elab_valid.proofs.Ways.{fits-later, inside-later}
use Rattle.cf_elab_valid_objects.specs.Starts.{TreeFits, TreesFit, ListFits}

abbrev pub plan_count : Plans → ℕ
plan_count no_plans = zero
plan_count (plans p ps) = suc (plan_count ps)

-- what an array has
abbrev pub element_of : SourceType → SourceType
element_of (array t n) = t
element_of (const t) = element_of t
element_of t = void

module _ (s : Scene) where
  -- a scalar or a reference of this type is one of the other, which may have const on it
  pub record ScalarIs (u : ℕ) (t : SourceType) : Type 0 where
    pub no_void : is_void (tree s u) ≡ false
    pub same : Same (tree s u) t
    pub whole : is_reference (tree s u) ≡ true → tree s u ≡ t

  -- an array, which may have const on it
  pub record ArrayOf (t : SourceType) : Type 0 where
    pub count : ℕ
    pub form : (xs : List Typing) (rest : Typing) → list_starts (scope_of s) xs rest t ≡ list_starts (scope_of s) xs rest (array (element_of t) count)
    pub no_reference : is_reference (element_of t) ≡ false

  abbrev mutual
    pub PlanFits : Env → Plan → SourceType → Type 0
    PlanFits e (by_value at u x) t = Inside e u × ScalarIs u t × TreeFits s e x
    PlanFits e (by_list at ps) t = (a : ArrayOf t) × (nat_le (plan_count ps) a.count ≡ true) × PlansFit e ps (element_of t)
    PlanFits e (by_text at bytes) t = string_starts (scope_of s) (length bytes) t ≡ true
    PlanFits e (wrong rule at) t = Unit {0}

    pub PlansFit : Env → Plans → SourceType → Type 0
    PlansFit e no_plans t = Unit {0}
    PlansFit e (plans p ps) t = PlanFits e p t × PlansFit e ps t

  -- ---- under const

  const-no-reference : (t : SourceType) → takes_const t ≡ true → is_reference t ≡ false
  const-no-reference (reference t) h = absurd (true≢false (sym h))
  const-no-reference (const t) h = absurd (true≢false (sym h))
  const-no-reference t h = refl

  pub plan-const : (e : Env) (p : Plan) (t : SourceType) → takes_const t ≡ true → PlanFits e p t → PlanFits e p (const t)
  plan-const e (by_value at u x) t c f = (f.0, record { no_void = f.1.no_void; same = f.1.same; whole = λ r. absurd (true≢false (sym r ∙ ap is_reference (f.1.whole r) ∙ const-no-reference t c)) }, f.2)
  plan-const e (by_list at ps) t c f = (record { count = f.0.count; form = λ xs rest. f.0.form xs rest; no_reference = f.0.no_reference }, f.1, f.2)
  plan-const e (by_text at bytes) t c f = f
  plan-const e (wrong rule at) t c f = tt

  -- ---- on the way

  mutual
    pub tree-later : (x : Tree) (a b : Env) → Steps a b → TreeFits s a x → TreeFits s b x
    tree-later (leaf at v) a b g f = fits-later s a b v g f
    tree-later (text at n bytes) a b g f = tt
    tree-later (branch at ts) a b g f = trees-later ts a b g f

    pub trees-later : (ts : Trees) (a b : Env) → Steps a b → TreesFit s a ts → TreesFit s b ts
    trees-later no_trees a b g f = tt
    trees-later (trees x ts) a b g f = (tree-later x a b g f.0, trees-later ts a b g f.1)

  mutual
    pub plan-later : (p : Plan) (t : SourceType) (a b : Env) → Steps a b → PlanFits a p t → PlanFits b p t
    plan-later (by_value at u x) t a b g f = (inside-later a b u g f.0, f.1, tree-later x a b g f.2)
    plan-later (by_list at ps) t a b g f = (f.0, f.1, plans-later ps (element_of t) a b g f.2)
    plan-later (by_text at bytes) t a b g f = f
    plan-later (wrong rule at) t a b g f = tt

    pub plans-later : (ps : Plans) (t : SourceType) (a b : Env) → Steps a b → PlansFit a ps t → PlansFit b ps t
    plans-later no_plans t a b g f = tt
    plans-later (plans p ps) t a b g f = (plan-later p t a b g f.0, plans-later ps t a b g f.1)

  -- ---- the trees in braces

  pub items-fit : (ts : Trees) (e : Env) → TreesFit s e ts → ListFits s e (items ts)
  items-fit no_trees e f = tt
  items-fit (trees x ts) e f = (f.0, items-fit ts e f.1)

  pub list-later : (ts : List Tree) (a b : Env) → Steps a b → ListFits s a ts → ListFits s b ts
  list-later [] a b g f = tt
  list-later (x ∷ xs) a b g f = (tree-later x a b g f.0, list-later xs a b g f.1)
