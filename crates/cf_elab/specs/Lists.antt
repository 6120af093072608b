-- Initialisers in braces (8.4.1, 8.4.2).
use Rattle.std.specs.Prelude.{ℕ, zero, suc, ◌+◌, Bool, true, false, ◌&&◌, nat_le, if◌then◌else◌, List, [], ◌∷◌, length, Option, None, Some}
use Rattle.std.specs.Option.{option_map_or}
use Rattle.cf_base.specs.declared.kind.Kind.{Kind}
use Rattle.cf_base.specs.declared.kind.Kind.TheVariants as kind
use Rattle.cf_types.specs.declared.ty.Ty.{Ty}
use Rattle.cf_types.specs.declared.ty.Ty.TheVariants as ty
use Rattle.cf_types.specs.Table.{Table}
use Rattle.cf_classes.specs.TypeTree.{of_type}
use Rattle.cf_unit.specs.declared.initialiser.Init.{Init, fold-Init}
use Rattle.cf_unit.specs.declared.initialiser.Init.TheOpen.{Init-F}
use Rattle.cf_core.specs.declared.node.Core.{Core as Node}
use Rattle.cf_core.specs.declared.node.Core.TheVariants as node
use Rattle.cf_elab.specs.UserFit.{initial}
use Rattle.cf_elab.specs.Answer.{Elab, ◌>>=◌, gives, breaks, known, all}
use Rattle.cf_elab.specs.Made.{place_in, same_ty}
use Rattle.cf_elab.specs.Operand.{Value, Part, computed, evaluated, value_of}
use Rattle.cf_elab.specs.Initial.{Start, fixed_start, Keeper}
use Rattle.cf_elab.specs.Expression.{elaborated, literal}

-- ---- an initialiser whose expressions are elaborated; a string literal alone waits, since it may initialise an array

mutual
  pub data Tree : Type 0 where
    leaf : ℕ → Value → Tree
    text : ℕ → ℕ → List ℕ → Tree  -- with the place of the literal
    branch : ℕ → Trees → Tree

  pub data Trees : Type 0 where
    no_trees : Trees
    trees : Tree → Trees → Trees

abbrev pub tree_place : Tree → ℕ
tree_place (leaf at v) = at
tree_place (text at n bytes) = at
tree_place (branch at ts) = at

abbrev pub listed : List Tree → Trees
listed [] = no_trees
listed (t ∷ ts) = trees t (listed ts)

abbrev pub items : Trees → List Tree
items no_trees = []
items (trees t ts) = t ∷ items ts

abbrev pub leaf_or_text : ℕ → Part → Option (ℕ × List ℕ) → Elab Tree
leaf_or_text at p None = evaluated p >>= (λ v. gives (leaf at v))
leaf_or_text at p (Some s) = gives (text at s.0 s.1)

abbrev pub expression_tree : ℕ → Part → Elab Tree
expression_tree at p = leaf_or_text at p p.text

abbrev pub tree_step : Init-F (Elab Tree) → Elab Tree
tree_step (Init-F.Value at x) = expression_tree at (elaborated x)
tree_step (Init-F.List at ts) = all ts >>= (λ us. gives (branch at (listed us)))

abbrev pub tree_of : Init → Elab Tree
tree_of = fold-Init (Elab Tree) tree_step

-- its outline: the braces and the literals, and for each other expression a leaf that has no value yet
abbrev pub no_value : ℕ → Value
no_value at = computed at (node.Blank at) 0

abbrev pub expression_outline : ℕ → Part → Tree
expression_outline at p = option_map_or (λ s. text at s.0 s.1) p.text (leaf at (no_value at))

abbrev pub outline_step : Init-F Tree → Tree
outline_step (Init-F.Value at x) = expression_outline at (elaborated x)
outline_step (Init-F.List at ts) = branch at (listed ts)

abbrev pub outline_of : Init → Tree
outline_of = fold-Init Tree outline_step

-- ---- what initialises what

-- each scalar by a value at a place, an array by its elements or by the bytes of a literal, or a rule that is broken
mutual
  pub data Plan : Type 0 where
    by_value : ℕ → ℕ → Tree → Plan  -- at a place, a scalar of this type
    by_list : ℕ → Plans → Plan
    by_text : ℕ → List ℕ → Plan
    wrong : ℕ → ℕ → Plan

  pub data Plans : Type 0 where
    no_plans : Plans
    plans : Plan → Plans → Plans

abbrev pub planned : List Plan → Plans
planned [] = no_plans
planned (p ∷ ps) = plans p (planned ps)

-- how an object of a type is initialised: by one initialiser, whose faults stand at a place; or from the front of a list whose inner braces are
-- left out, and what is left of the list
pub record Planner : Type 0 where
  pub by_one : ℕ → Tree → Plan
  pub from_front : List Tree → Plan × List Tree

abbrev pub front_by_one : (ℕ → Tree → Plan) → List Tree → Plan × List Tree
front_by_one by_one [] = (wrong 28 0, [])
front_by_one by_one (t ∷ ts) = (by_one (tree_place t) t, ts)

abbrev pub scalar_by_one : ℕ → ℕ → Tree → Plan
scalar_by_one t at (branch b ts) = wrong 28 b
scalar_by_one t at x = by_value at t x

abbrev pub scalar_planner : ℕ → Planner
scalar_planner t = record { by_one = scalar_by_one t; from_front = front_by_one (scalar_by_one t) }

-- so many elements at most from the front of a list
abbrev pub elements : Planner → ℕ → List Tree → List Plan × List Tree
elements p zero ts = ([], ts)
elements p (suc n) [] = ([], [])
elements p (suc n) (t ∷ ts) =
    let first = p.from_front (t ∷ ts) in
    let rest = elements p n first.1 in
    (first.0 ∷ rest.0, rest.1)

-- as many as an initialiser in braces can have
abbrev pub at_most : ℕ → List Tree → ℕ
at_most n ts = if nat_le n (length ts) then n else length ts

-- more than there are elements is K28 at the brace
abbrev pub full_list : ℕ → List Plan × List Tree → Plan
full_list at (ps, []) = by_list at (planned ps)
full_list at (ps, t ∷ ts) = wrong 28 at

abbrev pub text_fits : ℕ → ℕ → List ℕ → Plan
text_fits at n bytes = if nat_le (length bytes + 1) n then by_text at bytes else wrong 28 at

-- a char array is initialised by a literal, also in braces of its own
abbrev pub braced : Bool → ℕ → ℕ → Planner → List Tree → Plan
braced true at n p (text t place bytes ∷ []) = text_fits t n bytes
braced chars at n p ts = full_list at (elements p (at_most n ts) ts)

abbrev pub array_by_one : Bool → ℕ → Planner → ℕ → Tree → Plan
array_by_one true n p at (text t place bytes) = text_fits at n bytes
array_by_one chars n p at (branch b ts) = braced chars b n p (items ts)
array_by_one chars n p at x = wrong 28 at

abbrev pub array_from_front : Bool → ℕ → Planner → List Tree → Plan × List Tree
array_from_front chars n p [] = (wrong 28 0, [])
array_from_front chars n p (branch b ts ∷ rest) = (array_by_one chars n p b (branch b ts), rest)
array_from_front true n p (text t place bytes ∷ rest) = (text_fits t n bytes, rest)
array_from_front chars n p (t ∷ rest) =
    let some = elements p (at_most n (t ∷ rest)) (t ∷ rest) in
    (by_list (tree_place t) (planned some.0), some.1)

abbrev pub array_planner : Bool → ℕ → Planner → Planner
array_planner chars n p = record { by_one = array_by_one chars n p; from_front = array_from_front chars n p }

abbrev pub is_char_kind : Kind → Bool
is_char_kind kind.Char = true
is_char_kind kind.SChar = true
is_char_kind kind.UChar = true
is_char_kind other = false

abbrev pub char_step : (ℕ → Bool) → Ty → Bool
char_step rec (ty.Int k) = is_char_kind k
char_step rec (ty.Const t) = rec t
char_step rec other = false

abbrev pub is_char : Table → ℕ → Bool
is_char types t = of_type false char_step types t

abbrev pub number_of : Table → Ty → ℕ
number_of types t = option_map_or (λ n. n) (place_in (same_ty t) 0 types.types) 0

abbrev pub planner_step : Table → (ℕ → Planner) → Ty → Planner
planner_step types rec (ty.Array t n) = array_planner (is_char types t) n (rec t)
planner_step types rec (ty.Const t) = rec t
planner_step types rec other = scalar_planner (number_of types other)

-- by the types of the table
abbrev pub planner : Table → ℕ → Planner
planner types t = of_type (scalar_planner t) (planner_step types) types t

-- ---- the number of elements, where the initialiser gives it (8.2.4)

abbrev pub count_in : Table → ℕ → Tree → ℕ
count_in types t (text at n bytes) = if is_char types t then length bytes + 1 else 1
count_in types t (branch at (trees (text b n bytes) no_trees)) = if is_char types t then length bytes + 1 else 1
count_in types t (branch at ts) = length (elements (planner types t) (length (items ts)) (items ts)).0
count_in types t (leaf at v) = 1

-- ---- the initialiser

pub record Starts : Type 0 where
  pub nodes : List Node
  pub are_constant : Bool

module _ (keeper : ℕ → Elab Keeper) where
  abbrev pub by_tree : ℕ → ℕ → Tree → Elab Start
  by_tree at t (leaf p v) = initial keeper at t v
  by_tree at t (text p n bytes) = literal n bytes >>= value_of >>= initial keeper at t
  by_tree at t (branch p ts) = breaks 28 p

  abbrev mutual
    pub carried_out : Plan → Elab Start
    carried_out (by_value at t x) = by_tree at t x
    carried_out (by_list at ps) = do
      s ← all_carried_out ps
      gives (fixed_start (node.List at s.nodes (node.Zeros at)) s.are_constant)
    carried_out (by_text at bytes) = gives (fixed_start (node.Characters at bytes) true)
    carried_out (wrong rule at) = breaks rule at

    pub all_carried_out : Plans → Elab Starts
    all_carried_out no_plans = gives (record { nodes = []; are_constant = true })
    all_carried_out (plans p ps) = do
      s ← carried_out p
      rest ← all_carried_out ps
      gives (record { nodes = s.node ∷ rest.nodes; are_constant = s.is_constant && rest.are_constant })

  -- an object of the type by one initialiser, whose own faults stand at the place
  abbrev pub start_by : ℕ → ℕ → Tree → Elab Start
  start_by at t x = known >>= (λ env. carried_out ((planner env.types t).by_one at x))
