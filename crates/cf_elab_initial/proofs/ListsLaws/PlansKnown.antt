-- Plans and initialisers that are known stay so as the table of types grows, and a plan of known initialisers is known.
use Rattle.std.proofs.Common.{◌≡◌, ℕ, zero, suc, ◌+◌, ◌<◌, ◌≤◌, Bool, true, false, if◌then◌else◌, nat_le, List, [], ◌∷◌, length, ℤ, Option, None, Some, refl, sym, ap, subst, ◌∙◌, arith}
use Rattle.cf_types.specs.declared.ty.Ty.{Ty}
use Rattle.cf_types.specs.declared.ty.Ty.TheVariants as ty
use Rattle.cf_types.specs.Table.{Table, IsTable}
use Rattle.cf_convert.specs.Constness.{type_at, bare}
use Rattle.cf_elab.specs.Env.{Env}
use Rattle.cf_elab.specs.Lists as lists
use Rattle.cf_elab.specs.Lists.{Tree, Trees, leaf, text, branch, trees, no_trees, items, Plan, Plans, by_value, by_list, by_text, wrong, plans, no_plans, planned, Planner, planner, scalar_planner, array_planner, scalar_by_one, text_fits, elements}
use Rattle.cf_elab.specs.Operand.{Sort, sort_of}
use Rattle.cf_elab_env.specs.Holds.{FitsIn, Grows, IsEnv, IsType, Known, fits_sort}
use Rattle.cf_elab_env.proofs.Bare.{sort_bare}
use Rattle.cf_elab_env.proofs.Growth.{here, bare_const, known_grown, type_grown}
use Rattle.cf_elab_env.proofs.Sorts.{below_at}
use Rattle.cf_elab_initial.specs.declared.lists.form.Form.{Form}
use Rattle.cf_elab_initial.specs.declared.lists.form.Form.TheVariants.{Scalar, Array}
use Rattle.cf_elab_initial.specs.Lists.Forms.{form_of, form_by, FormKnown, planner_of}
use Rattle.cf_elab_initial.specs.Lists.Shut as planning
use Rattle.cf_elab_initial.proofs.ListsLaws.Planners.{planner_is}
use Rattle.cf_elab_initial.specs.Lists.Known.{TreeKnown, AllTreesKnown, TreesKnown, PlanKnown, AllPlansKnown, PlansKnown, NumberFits}

-- ---- as the table grows

module _ (a b : Table) (g : Grows a b) where
  mutual
    tree_grown : (x : Tree) → TreeKnown a x → TreeKnown b x
    tree_grown (leaf at v) k = known_grown a b v g k
    tree_grown (text at n bytes) k = tt
    tree_grown (branch at ts) k = all_trees_grown ts k

    all_trees_grown : (ts : Trees) → AllTreesKnown a ts → AllTreesKnown b ts
    all_trees_grown no_trees k = tt
    all_trees_grown (trees t ts) k = (tree_grown t k.0, all_trees_grown ts k.1)

  mutual
    plan_grown : (p : Plan) → PlanKnown a p → PlanKnown b p
    plan_grown (by_value at t x) k = (type_grown a b t g k.0, tree_grown x k.1)
    plan_grown (by_list at ps) k = all_plans_grown ps k
    plan_grown (by_text at bytes) k = tt
    plan_grown (wrong rule at) k = tt

    all_plans_grown : (ps : Plans) → AllPlansKnown a ps → AllPlansKnown b ps
    all_plans_grown no_plans k = tt
    all_plans_grown (plans p ps) k = (plan_grown p k.0, all_plans_grown ps k.1)

  pub plans_grown : (ps : List Plan) → PlansKnown a ps → PlansKnown b ps
  plans_grown [] k = tt
  plans_grown (p ∷ ps) k = (plan_grown p k.0, plans_grown ps k.1)

-- ---- of a plan

pub planned_known : (types : Table) (ps : List Plan) → PlansKnown types ps → AllPlansKnown types (planned ps)
planned_known types [] k = tt
planned_known types (p ∷ ps) k = (k.0, planned_known types ps k.1)

pub list_known : (types : Table) (ps : List Plan) → AllPlansKnown types (planned ps) → PlansKnown types ps
list_known types [] k = tt
list_known types (p ∷ ps) k = (k.0, list_known types ps k.1)

items_known : (types : Table) (ts : Trees) → AllTreesKnown types ts → TreesKnown types (items ts)
items_known types no_trees k = tt
items_known types (trees t ts) k = (k.0, items_known types ts k.1)

record PlannerKnown (types : Table) (p : Planner) : Type 0 where
  pub one : (at : ℕ) (x : Tree) → TreeKnown types x → PlanKnown types (p.by_one at x)
  pub front : (ts : List Tree) → TreesKnown types ts → PlanKnown types (p.from_front ts).0 × TreesKnown types (p.from_front ts).1

scalar_known : (types : Table) (u : ℕ) → IsType types u → PlannerKnown types (scalar_planner u)
scalar_known types u typed = record { one = one; front = front }
  where
    one : (at : ℕ) (x : Tree) → TreeKnown types x → PlanKnown types (scalar_by_one u at x)
    one at (leaf p v) k = (typed, k)
    one at (text p n bytes) k = (typed, k)
    one at (branch p ts) k = tt

    front : (ts : List Tree) → TreesKnown types ts
        → PlanKnown types (lists.front_by_one (scalar_by_one u) ts).0 × TreesKnown types (lists.front_by_one (scalar_by_one u) ts).1
    front [] k = (tt, tt)
    front (t ∷ ts) k = (one (lists.tree_place t) t k.0, k.1)

module _ (types : Table) (p : Planner) (known : PlannerKnown types p) where
  elements_known : (n : ℕ) (ts : List Tree) → TreesKnown types ts → PlansKnown types (elements p n ts).0 × TreesKnown types (elements p n ts).1
  elements_known zero ts k = (tt, k)
  elements_known (suc n) [] k = (tt, tt)
  elements_known (suc n) (t ∷ ts) k =
      let first = known.front (t ∷ ts) k in
      let rest = elements_known n (p.from_front (t ∷ ts)).1 first.1 in
      ((first.0, rest.0), rest.1)

  text_known : (at n : ℕ) (bytes : List ℕ) → PlanKnown types (text_fits at n bytes)
  text_known at n bytes = by (nat_le (length bytes + 1) n)
    where
      by : (b : Bool) → PlanKnown types (if b then by_text at bytes else wrong 28 at)
      by true = tt
      by false = tt

  full_known : (at : ℕ) (e : List Plan × List Tree) → PlansKnown types e.0 → PlanKnown types (lists.full_list at e)
  full_known at (ps, []) k = planned_known types ps k
  full_known at (ps, t ∷ ts) k = tt

  braced_known : (c : Bool) (at n : ℕ) (ts : List Tree) → TreesKnown types ts → PlanKnown types (lists.braced c at n p ts)
  braced_known true at n (text q m bytes ∷ []) k = text_known q n bytes
  braced_known true at n [] k = full_known at (elements p (lists.at_most n []) []) (elements_known (lists.at_most n []) [] k).0
  braced_known true at n (leaf q v ∷ ts) k = let l = leaf q v ∷ ts in full_known at (elements p (lists.at_most n l) l) (elements_known (lists.at_most n l) l k).0
  braced_known true at n (branch q us ∷ ts) k = let l = branch q us ∷ ts in full_known at (elements p (lists.at_most n l) l) (elements_known (lists.at_most n l) l k).0
  braced_known true at n (text q m bytes ∷ t ∷ ts) k = let l = text q m bytes ∷ t ∷ ts in full_known at (elements p (lists.at_most n l) l) (elements_known (lists.at_most n l) l k).0
  braced_known false at n ts k = full_known at (elements p (lists.at_most n ts) ts) (elements_known (lists.at_most n ts) ts k).0

  array_one : (c : Bool) (n at : ℕ) (x : Tree) → TreeKnown types x → PlanKnown types (lists.array_by_one c n p at x)
  array_one true n at (leaf q v) k = tt
  array_one false n at (leaf q v) k = tt
  array_one true n at (text q m bytes) k = text_known at n bytes
  array_one false n at (text q m bytes) k = tt
  array_one true n at (branch q ts) k = braced_known true q n (items ts) (items_known types ts k)
  array_one false n at (branch q ts) k = braced_known false q n (items ts) (items_known types ts k)

  in_parts : (n : ℕ) (t : Tree) (ts : List Tree) → TreesKnown types (t ∷ ts)
      → AllPlansKnown types (planned (elements p (lists.at_most n (t ∷ ts)) (t ∷ ts)).0) × TreesKnown types (elements p (lists.at_most n (t ∷ ts)) (t ∷ ts)).1
  in_parts n t ts k =
      let e = elements_known (lists.at_most n (t ∷ ts)) (t ∷ ts) k in
      (planned_known types (elements p (lists.at_most n (t ∷ ts)) (t ∷ ts)).0 e.0, e.1)

  array_front : (c : Bool) (n : ℕ) (ts : List Tree) → TreesKnown types ts
      → PlanKnown types (lists.array_from_front c n p ts).0 × TreesKnown types (lists.array_from_front c n p ts).1
  array_front true n [] k = (tt, tt)
  array_front false n [] k = (tt, tt)
  array_front true n (branch q us ∷ ts) k = (array_one true n q (branch q us) k.0, k.1)
  array_front false n (branch q us ∷ ts) k = (array_one false n q (branch q us) k.0, k.1)
  array_front true n (text q m bytes ∷ ts) k = (text_known q n bytes, k.1)
  array_front false n (text q m bytes ∷ ts) k = in_parts n (text q m bytes) ts k
  array_front true n (leaf q v ∷ ts) k = in_parts n (leaf q v) ts k
  array_front false n (leaf q v ∷ ts) k = in_parts n (leaf q v) ts k

  array_known : (c : Bool) (n : ℕ) → PlannerKnown types (array_planner c n p)
  array_known c n = record { one = array_one c n; front = array_front c n }

module _ (env : Env) (e : IsEnv env) where
  form_known : (t : ℕ) → IsType env.types t → FormKnown env.types t (form_of env.types t)
  form_known t known = by (type_at env.types t) refl
    where
      by : (v : Ty) → type_at env.types t ≡ v → FormKnown env.types t (form_by env.types t v)
      by (ty.Array u n) is = below_at env.types t (ty.Array u n) e.table (here env.types t known ∙ ap Some is)
      by (ty.Const u) is =
          let below : u < t = below_at env.types t (ty.Const u) e.table (here env.types t known ∙ ap Some is) in
          omega arith
      by ty.Void is = known
      by (ty.Int k) is = known
      by (ty.Enum n) is = known
      by (ty.Class c) is = known
      by (ty.Ptr u) is = known
      by (ty.Ref u) is = known
      by (ty.Fun f) is = known
      by (ty.MemData c u) is = known
      by (ty.MemFun c f) is = known

  planner_known : (n t : ℕ) → t < n → IsType env.types t → PlannerKnown env.types (planner env.types t)
  planner_known zero t before known = absurd (omega arith)
  planner_known (suc n) t before known =
      subst (PlannerKnown env.types) (sym (planner_is env e.table t known))
      (by (form_of env.types t) (form_known t known) (λ u below. planner_known n u (omega arith) (omega arith)))
    where
      by : (f : Form) → FormKnown env.types t f → ((u : ℕ) → u < t → PlannerKnown env.types (planner env.types u)) → PlannerKnown env.types (planner_of env.types f)
      by (Scalar u) k rec = scalar_known env.types u k
      by (Array r) k rec = array_known env.types (planner env.types r.element) (rec r.element k) r.is_char r.count

  pub one_known : (t at : ℕ) (x : Tree) → IsType env.types t → TreeKnown env.types x → PlanKnown env.types (planning.by_one env.types t at x)
  unfolding planning.by_one
  one_known t at x known k = (planner_known (t + 1) t (omega arith) known).one at x k

-- ---- numbers

module _ (b : Table) (z : Option ℤ) where
  text_number : (at n : ℕ) (bytes : List ℕ) → NumberFits b (text_fits at n bytes) z → z ≡ None
  text_number at n bytes = by (nat_le (length bytes + 1) n)
    where
      by : (c : Bool) → NumberFits b (if c then by_text at bytes else wrong 28 at) z → z ≡ None
      by true h = h
      by false h = h

  full_number : (at : ℕ) (e : List Plan × List Tree) → NumberFits b (lists.full_list at e) z → z ≡ None
  full_number at (ps, []) h = h
  full_number at (ps, t ∷ ts) h = h

  braced_number : (c : Bool) (at n : ℕ) (p : Planner) (ts : List Tree) → NumberFits b (lists.braced c at n p ts) z → z ≡ None
  braced_number true at n p (text q m bytes ∷ []) h = text_number q n bytes h
  braced_number true at n p [] h = full_number at (elements p (lists.at_most n []) []) h
  braced_number true at n p (leaf q v ∷ ts) h = let l = leaf q v ∷ ts in full_number at (elements p (lists.at_most n l) l) h
  braced_number true at n p (branch q us ∷ ts) h = let l = branch q us ∷ ts in full_number at (elements p (lists.at_most n l) l) h
  braced_number true at n p (text q m bytes ∷ t ∷ ts) h = let l = text q m bytes ∷ t ∷ ts in full_number at (elements p (lists.at_most n l) l) h
  braced_number false at n p ts h = full_number at (elements p (lists.at_most n ts) ts) h

  array_number : (c : Bool) (n : ℕ) (p : Planner) (at : ℕ) (x : Tree) → NumberFits b (lists.array_by_one c n p at x) z → z ≡ None
  array_number true n p at (leaf q v) h = h
  array_number false n p at (leaf q v) h = h
  array_number true n p at (text q m bytes) h = text_number at n bytes h
  array_number false n p at (text q m bytes) h = h
  array_number true n p at (branch q ts) h = braced_number true q n p (items ts) h
  array_number false n p at (branch q ts) h = braced_number false q n p (items ts) h

none_fits : (types : Table) (t : ℕ) (z : Option ℤ) → z ≡ None → FitsIn types t z
none_fits types t z none = subst (FitsIn types t) (sym none) tt

same_fits : (types : Table) (t u : ℕ) (z : Option ℤ) → sort_of types u ≡ sort_of types t → FitsIn types u z → FitsIn types t z
same_fits types t u None same h = tt
same_fits types t u (Some w) same h = let P : Sort → Type 0 = λ s. fits_sort s w ≡ true in subst P same h

module _ (env : Env) (e : IsEnv env) (b : Table) (g : Grows env.types b) (t : ℕ) (known : IsType env.types t) (z : Option ℤ) where
  scalar_number : (u at : ℕ) (x : Tree) → sort_of b u ≡ sort_of b t → NumberFits b (scalar_by_one u at x) z → FitsIn b t z
  scalar_number u at (leaf q v) same h = same_fits b t u z same h
  scalar_number u at (text q m bytes) same h = same_fits b t u z same h
  scalar_number u at (branch q ts) same h = none_fits b t z h

  pub one_number : (at : ℕ) (x : Tree) → NumberFits b (planning.by_one env.types t at x) z → FitsIn b t z
  unfolding planning.by_one
  one_number at x h = by (type_at env.types t) refl (subst (λ (p : Planner). NumberFits b (p.by_one at x) z) (planner_is env e.table t known) h)
    where
      by : (v : Ty) → type_at env.types t ≡ v → NumberFits b ((planner_of env.types (form_by env.types t v)).by_one at x) z → FitsIn b t z
      by (ty.Array u n) is h = none_fits b t z (array_number b z (lists.is_char env.types u) n (planner env.types u) at x h)
      by (ty.Const u) is h =
          let below : u < t = below_at env.types t (ty.Const u) e.table (here env.types t known ∙ ap Some is) in
          let inside : IsType env.types u = omega arith in
          let same : sort_of env.types u ≡ sort_of env.types t = ap (sort_of env.types) (sym (bare_const env.types t u is)) ∙ sort_bare env.types e.table t known in
          scalar_number u at x (g.sorts u inside ∙ same ∙ sym (g.sorts t known)) h
      by ty.Void is h = scalar_number t at x refl h
      by (ty.Int k) is h = scalar_number t at x refl h
      by (ty.Enum n) is h = scalar_number t at x refl h
      by (ty.Class c) is h = scalar_number t at x refl h
      by (ty.Ptr u) is h = scalar_number t at x refl h
      by (ty.Ref u) is h = scalar_number t at x refl h
      by (ty.Fun f) is h = scalar_number t at x refl h
      by (ty.MemData c u) is h = scalar_number t at x refl h
      by (ty.MemFun c f) is h = scalar_number t at x refl h
