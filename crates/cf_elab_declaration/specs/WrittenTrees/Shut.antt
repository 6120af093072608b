-- The rows of initialisers with the expressions in them, each under a name of its own that does not unfold. `Rattle.cf_elab_declaration.proofs.WrittenTreesLaws` says what
-- each is.
use Rattle.std.specs.Prelude.{◌≡◌, ℕ, List, map, Option, None, Some}
use Rattle.cf_syntax.specs.declared.expression.Expr.{Expr}
use Rattle.cf_unit.specs.declared.initialiser.Init.{Init, fold-Init}
use Rattle.cf_unit.specs.declared.initialiser.Init.TheOpen.{Init-F}
use Rattle.cf_unit.specs.declared.initialiser.Initialiser.{Initialiser}
use Rattle.cf_unit.specs.declared.initialiser.Initialiser.TheVariants as initialiser
use Rattle.cf_elab.specs.Answer.{Elab, all}
use Rattle.cf_elab.specs.Built.{Place, first_of}
use Rattle.cf_elab.specs.Declaration as declaration
use Rattle.cf_elab.specs.Expression.{elaborated}
use Rattle.cf_elab.specs.Lists as lists
use Rattle.cf_elab.specs.Lists.{Tree}
use Rattle.cf_elab.specs.Objects.{Written}
use Rattle.cf_elab.specs.Built.{expression as place}
use Rattle.cf_elab_declaration.specs.WrittenTrees.Given.{given}

-- ---- values in an initialiser

unfoldable pub expression_tree : ℕ → Expr → Elab Tree
expression_tree at e = lists.expression_tree at (elaborated e)

-- in order
unfoldable pub expression_trees : ℕ → List Expr → Elab (List Tree)
expression_trees at es = all (map (expression_tree at) es)

unfoldable pub tree_of : Init → Elab Tree
tree_of = lists.tree_of

-- in order
unfoldable pub trees_of : List Init → Elab (List Tree)
trees_of is = all (map tree_of is)

-- ---- outlines, without the expressions

unfoldable pub expression_outline : ℕ → Expr → Tree
expression_outline at e = lists.expression_outline at (elaborated e)

unfoldable pub outline_of : Init → Tree
outline_of = lists.outline_of

unfoldable pub outline : Initialiser → Tree
outline i = declaration.outline (declaration.initial_of i)

-- ---- initialisers of declarators

unfoldable pub written : Initialiser → Elab Written
written i = declaration.written (declaration.initial_of i)

unfoldable pub parts_of : Option Initialiser → Elab (Option Written)
parts_of i = declaration.parts_of (given i)

-- ---- whether all forms in them are built

abbrev pub init_step : Init-F Place → Place
init_step (Init-F.Value at x) = place x
init_step (Init-F.List at ps) = first_of ps

abbrev pub init_place : Init → Place
init_place = fold-Init Place init_step

abbrev pub initialiser_place : Initialiser → Place
initialiser_place (initialiser.Equals at i) = init_place i
initialiser_place (initialiser.Arguments at es) = first_of (map place es)

unfoldable pub IsBuilt : Init → Type 0
IsBuilt i = init_place i ≡ None

unfoldable pub AreBuilt : List Init → Type 0
AreBuilt is = first_of (map init_place is) ≡ None

unfoldable pub InitialiserIsBuilt : Initialiser → Type 0
InitialiserIsBuilt i = initialiser_place i ≡ None

abbrev if_built : Option Initialiser → Type 0
if_built None = Unit {0}
if_built (Some i) = InitialiserIsBuilt i

unfoldable pub PartsAreBuilt : Option Initialiser → Type 0
PartsAreBuilt = if_built
