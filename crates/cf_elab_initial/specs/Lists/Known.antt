-- Initialisers and plans whose values are known, and whose types are in the table.
use Rattle.std.specs.Prelude.{◌≡◌, ℕ, List, [], ◌∷◌, ℤ, Option, None}
use Rattle.cf_types.specs.Table.{Table}
use Rattle.cf_elab.specs.Lists.{Tree, Trees, leaf, text, branch, trees, no_trees, Plan, Plans, by_value, by_list, by_text, wrong, plans, no_plans}
use Rattle.cf_elab_env.specs.Holds.{FitsIn, IsType, Known}

abbrev mutual
  pub TreeKnown : Table → Tree → Type 0
  TreeKnown types (leaf at v) = Known types v
  TreeKnown types (text at n bytes) = Unit {0}
  TreeKnown types (branch at ts) = AllTreesKnown types ts

  pub AllTreesKnown : Table → Trees → Type 0
  AllTreesKnown types no_trees = Unit {0}
  AllTreesKnown types (trees t ts) = TreeKnown types t × AllTreesKnown types ts

abbrev pub TreesKnown : Table → List Tree → Type 0
TreesKnown types [] = Unit {0}
TreesKnown types (t ∷ ts) = TreeKnown types t × TreesKnown types ts

abbrev mutual
  pub PlanKnown : Table → Plan → Type 0
  PlanKnown types (by_value at t x) = IsType types t × TreeKnown types x
  PlanKnown types (by_list at ps) = AllPlansKnown types ps
  PlanKnown types (by_text at bytes) = Unit {0}
  PlanKnown types (wrong rule at) = Unit {0}

  pub AllPlansKnown : Table → Plans → Type 0
  AllPlansKnown types no_plans = Unit {0}
  AllPlansKnown types (plans p ps) = PlanKnown types p × AllPlansKnown types ps

abbrev pub PlansKnown : Table → List Plan → Type 0
PlansKnown types [] = Unit {0}
PlansKnown types (p ∷ ps) = PlanKnown types p × PlansKnown types ps

-- the number of what a plan makes is one of the scalar's type, and an array has none
abbrev pub NumberFits : Table → Plan → Option ℤ → Type 0
NumberFits types (by_value at t x) z = FitsIn types t z
NumberFits types (by_list at ps) z = z ≡ None
NumberFits types (by_text at bytes) z = z ≡ None
NumberFits types (wrong rule at) z = z ≡ None
