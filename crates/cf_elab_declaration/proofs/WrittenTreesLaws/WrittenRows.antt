-- Initialisers of declarators by their forms.
use Rattle.std.proofs.Common.{◌≡◌, ℕ, List, [], ◌∷◌, map, None, Some, refl, ap}
use Rattle.cf_syntax.specs.declared.expression.Expr.{Expr}
use Rattle.cf_unit.specs.declared.initialiser.Init.{Init}
use Rattle.cf_unit.specs.declared.initialiser.Initialiser.{Initialiser}
use Rattle.cf_unit.specs.declared.initialiser.Initialiser.TheVariants as initialiser
use Rattle.cf_elab.specs.Answer.{Made, onward, each}
use Rattle.cf_elab.specs.Env.{Env}
use Rattle.cf_elab.specs.Expression.{elaborated}
use Rattle.cf_elab.specs.Lists as lists
use Rattle.cf_elab.specs.Objects.{equals, bracketed}
use Rattle.cf_elab_env.proofs.Growth.{grown_laws}
use Rattle.cf_elab_declaration.specs.WrittenTrees.Shut as shut
use Rattle.cf_elab_declaration.proofs.WrittenTreesLaws.BuiltParts.{equals_inside, arguments_inside, some_inside}

pub equals_is : (at : ℕ) (i : Init) (env : Env) → shut.written (initialiser.Equals at i) env ≡ onward (shut.tree_of i env) (λ t env. Made (equals at t) env)
unfolding shut.written shut.tree_of
equals_is at i env = refl

-- the parts of each expression before the next
each_is : (at : ℕ) (es : List Expr) (env : Env) → each (lists.expression_tree at) (map elaborated es) env ≡ shut.expression_trees at es env
unfolding shut.expression_trees shut.expression_tree
each_is at [] env = refl
each_is at (e ∷ es) env =
    (λ j. onward (lists.expression_tree at (elaborated e) env) (λ t env. onward (each_is at es env j) (λ ts env. Made (t ∷ ts) env)))

pub arguments_is : (at : ℕ) (es : List Expr) (env : Env)
    → shut.written (initialiser.Arguments at es) env ≡ onward (shut.expression_trees at es env) (λ ts env. Made (bracketed at ts) env)
unfolding shut.written
arguments_is at es env = ap (λ a. onward a (λ ts env. Made (bracketed at ts) env)) (each_is at es env)

pub ruleset written_laws = (equals_is, arguments_is, equals_inside, arguments_inside, grown_laws)

pub nothing_is : (env : Env) → shut.parts_of None env ≡ Made None env
unfolding shut.parts_of
nothing_is env = refl

pub something_is : (i : Initialiser) (env : Env) → shut.parts_of (Some i) env ≡ onward (shut.written i env) (λ w env. Made (Some w) env)
unfolding shut.parts_of shut.written
something_is i env = refl

pub ruleset parts_laws = (nothing_is, something_is, some_inside, grown_laws)
