-- Plans of initialisers whose parts are apart (8.4.1, 8.4.2).
use Rattle.std.proofs.Common.{◌≡◌, ℕ, zero, suc, ◌+◌, Bool, true, false, ◌==◌, nat_le, if◌then◌else◌, List, [], ◌∷◌, length, reverse}
use Rattle.cf_types.specs.declared.ty.Ty.{Ty}
use Rattle.cf_types.specs.declared.ty.Ty.TheVariants as ty
use Rattle.cf_types.specs.Table.{Table}
use Rattle.cf_classes.specs.TypeTree.{of_types}
use Rattle.cf_elab.specs.Lists.{Tree, Trees, leaf, text, branch, no_trees, trees, items, tree_place, Plan, Plans, by_value, by_list, by_text, wrong, no_plans, plans, planned, Planner, scalar_by_one, scalar_planner, elements, at_most, full_list, text_fits, braced, array_by_one, array_from_front, array_planner, is_char, number_of, planner_step, planner}
use Rattle.cf_elab_valid.specs.Scene.{Scene}
use Rattle.cf_elab_apart.specs.Apart.{TreeApart, TreesApart, ListApart}

module _ (s : Scene) where
  abbrev mutual
    pub PlanApart : Plan → Type 0
    PlanApart (by_value at u x) = TreeApart s x
    PlanApart (by_list at ps) = PlansApart ps
    PlanApart (by_text at bytes) = Unit {0}
    PlanApart (wrong rule at) = Unit {0}

    pub PlansApart : Plans → Type 0
    PlansApart no_plans = Unit {0}
    PlansApart (plans p ps) = PlanApart p × PlansApart ps

  -- plans by one initialiser, and from the front of a list
  pub record PlannerApart (p : Planner) : Type 0 where
    pub one : (at : ℕ) (x : Tree) → TreeApart s x → PlanApart (p.by_one at x)
    pub front : (ts : List Tree) → ListApart s ts → PlanApart (p.from_front ts).0 × ListApart s (p.from_front ts).1

  items-apart : (ts : Trees) → TreesApart s ts → ListApart s (items ts)
  items-apart no_trees a = tt
  items-apart (trees x ts) a = (a.0, items-apart ts a.1)

  -- ---- scalars

  scalar-one : (u at : ℕ) (x : Tree) → TreeApart s x → PlanApart (scalar_by_one u at x)
  scalar-one u at (leaf p v) a = a
  scalar-one u at (text p n bytes) a = tt
  scalar-one u at (branch p ts) a = tt

  scalar-front : (u : ℕ) (ts : List Tree) → ListApart s ts → PlanApart ((scalar_planner u).from_front ts).0 × ListApart s ((scalar_planner u).from_front ts).1
  scalar-front u [] a = (tt, tt)
  scalar-front u (x ∷ xs) a = (scalar-one u (tree_place x) x a.0, a.1)

  scalar-apart : (u : ℕ) → PlannerApart (scalar_planner u)
  scalar-apart u = record { one = λ at x a. scalar-one u at x a; front = λ ts a. scalar-front u ts a }

  -- ---- arrays

  module _ (p : Planner) (k : PlannerApart p) where
    pub elements-apart : (n : ℕ) (ts : List Tree) → ListApart s ts → PlansApart (planned (elements p n ts).0) × ListApart s (elements p n ts).1
    elements-apart zero ts a = (tt, a)
    elements-apart (suc n) [] a = (tt, tt)
    elements-apart (suc n) (x ∷ xs) a =
        let first = k.front (x ∷ xs) a in
        let more = elements-apart n (p.from_front (x ∷ xs)).1 first.1 in ((first.0, more.0), more.1)

    full-apart : (at : ℕ) (r : List Plan × List Tree) → PlansApart (planned r.0) → PlanApart (full_list at r)
    full-apart at (ps, []) a = a
    full-apart at (ps, x ∷ xs) a = tt

    listed-apart : (at n : ℕ) (ts : List Tree) → ListApart s ts → PlanApart (full_list at (elements p (at_most n ts) ts))
    listed-apart at n ts a = full-apart at (elements p (at_most n ts) ts) (elements-apart (at_most n ts) ts a).0

    text-apart : (at n : ℕ) (bytes : List ℕ) → PlanApart (text_fits at n bytes)
    text-apart at n bytes = by (nat_le (length bytes + 1) n)
      where
        by : (b : Bool) → PlanApart (if b then by_text at bytes else wrong 28 at)
        by true = tt
        by false = tt

    braced-apart : (b : Bool) (at n : ℕ) (ts : List Tree) → ListApart s ts → PlanApart (braced b at n p ts)
    braced-apart true at n [] a = listed-apart at n [] a
    braced-apart true at n (leaf q v ∷ xs) a = listed-apart at n (leaf q v ∷ xs) a
    braced-apart true at n (branch q ys ∷ xs) a = listed-apart at n (branch q ys ∷ xs) a
    braced-apart true at n (text q place bytes ∷ y ∷ ys) a = listed-apart at n (text q place bytes ∷ y ∷ ys) a
    braced-apart true at n (text q place bytes ∷ []) a = text-apart q n bytes
    braced-apart false at n ts a = listed-apart at n ts a

    array-one : (b : Bool) (n at : ℕ) (x : Tree) → TreeApart s x → PlanApart (array_by_one b n p at x)
    array-one true n at (text q place bytes) a = text-apart at n bytes
    array-one true n at (branch q ts) a = braced-apart true q n (items ts) (items-apart ts a)
    array-one true n at (leaf q v) a = tt
    array-one false n at (text q place bytes) a = tt
    array-one false n at (branch q ts) a = braced-apart false q n (items ts) (items-apart ts a)
    array-one false n at (leaf q v) a = tt

    array-front : (b : Bool) (n : ℕ) (ts : List Tree) → ListApart s ts → PlanApart (array_from_front b n p ts).0 × ListApart s (array_from_front b n p ts).1
    array-front true n [] a = (tt, tt)
    array-front false n [] a = (tt, tt)
    array-front true n (branch q ys ∷ xs) a = (array-one true n q (branch q ys) a.0, a.1)
    array-front false n (branch q ys ∷ xs) a = (array-one false n q (branch q ys) a.0, a.1)
    array-front true n (text q place bytes ∷ xs) a = (text-apart q n bytes, a.1)
    array-front false n (text q place bytes ∷ xs) a = elements-apart (at_most n (text q place bytes ∷ xs)) (text q place bytes ∷ xs) a
    array-front true n (leaf q v ∷ xs) a = elements-apart (at_most n (leaf q v ∷ xs)) (leaf q v ∷ xs) a
    array-front false n (leaf q v ∷ xs) a = elements-apart (at_most n (leaf q v ∷ xs)) (leaf q v ∷ xs) a

    array-apart : (b : Bool) (n : ℕ) → PlannerApart (array_planner b n p)
    array-apart b n = record { one = λ at x a. array-one b n at x a; front = λ ts a. array-front b n ts a }

  -- ---- by the types of the table

  step-apart : (types : Table) (rec : ℕ → Planner) → ((u : ℕ) → PlannerApart (rec u)) → (x : Ty) → PlannerApart (planner_step types rec x)
  step-apart types rec k (ty.Array u n) = array-apart (rec u) (k u) (is_char types u) n
  step-apart types rec k (ty.Const u) = k u
  step-apart types rec k ty.Void = scalar-apart (number_of types ty.Void)
  step-apart types rec k (ty.Int j) = scalar-apart (number_of types (ty.Int j))
  step-apart types rec k (ty.Enum j) = scalar-apart (number_of types (ty.Enum j))
  step-apart types rec k (ty.Class j) = scalar-apart (number_of types (ty.Class j))
  step-apart types rec k (ty.Ptr j) = scalar-apart (number_of types (ty.Ptr j))
  step-apart types rec k (ty.Ref j) = scalar-apart (number_of types (ty.Ref j))
  step-apart types rec k (ty.Fun j) = scalar-apart (number_of types (ty.Fun j))
  step-apart types rec k (ty.MemData j n) = scalar-apart (number_of types (ty.MemData j n))
  step-apart types rec k (ty.MemFun j n) = scalar-apart (number_of types (ty.MemFun j n))

  types-apart : (types : Table) (none : Planner) → PlannerApart none → (xs : List Ty) (t : ℕ) → PlannerApart (of_types none (planner_step types) xs t)
  types-apart types none k [] t = k
  types-apart types none k (x ∷ xs) t = by (λ u. types-apart types none k xs u) (t == length xs)
    where
      by : ((u : ℕ) → PlannerApart (of_types none (planner_step types) xs u)) → (b : Bool) → PlannerApart (elim b as (λ _. Planner) [ true ↦ planner_step types (of_types none (planner_step types) xs) x | false ↦ of_types none (planner_step types) xs t ])
      by rest true = step-apart types (of_types none (planner_step types) xs) rest x
      by rest false = rest t

  pub planner-apart : (types : Table) (t : ℕ) → PlannerApart (planner types t)
  planner-apart types t = types-apart types (scalar_planner t) (scalar-apart t) (reverse types.types) t
