-- Outlines of initialisers by their forms.
use Rattle.std.proofs.Common.{◌≡◌, ℕ, List, [], ◌∷◌, map, Option, refl, sym, ap, ◌∙◌}
use Rattle.std.specs.Option.{option_map_or}
use Rattle.cf_syntax.specs.declared.expression.Expr.{Expr}
use Rattle.cf_syntax.specs.declared.expression.Expr.TheVariants as expression
use Rattle.cf_unit.specs.declared.initialiser.Init.{Init, fold-roll-Init}
use Rattle.cf_unit.specs.declared.initialiser.Init.TheOpen.{Init-F}
use Rattle.cf_unit.specs.declared.initialiser.Init.TheVariants as form
use Rattle.cf_unit.specs.declared.initialiser.Init.TheVariants.{rolls-Value, rolls-List}
use Rattle.cf_unit.specs.declared.initialiser.Initialiser.TheVariants as initialiser
use Rattle.cf_elab.specs.Expression.{elaborated}
use Rattle.cf_elab.specs.Lists as lists
use Rattle.cf_elab.specs.Operand.{Value}
use Rattle.cf_elab_initial.specs.Lists.Seen.{tree_seen, trees_seen}
use Rattle.cf_elab_initial.specs.declared.lists.tree.Tree.{Tree}
use Rattle.cf_elab_initial.specs.declared.lists.tree.Tree.TheVariants as tree
use Rattle.cf_elab_initial.proofs.ListsLaws.Rolled.{seen_leaf, seen_text, seen_branch}
use Rattle.cf_elab_declaration.specs.WrittenTrees.Shut as shut
use Rattle.cf_elab_declaration.proofs.WrittenTreesLaws.TextLaws.{NoText, text_there, has_none}

-- ---- expressions

pub text_outline : (at n : ℕ) (bytes : List ℕ) → tree_seen (tree.Text at n bytes) ≡ shut.expression_outline at (expression.Text n bytes)
unfolding shut.expression_outline
text_outline at n bytes =
    seen_text at n bytes ∙ sym (ap (λ (o : Option (ℕ × List ℕ)). option_map_or (λ (s : ℕ × List ℕ). lists.text at s.0 s.1) o (lists.leaf at (lists.no_value at))) (text_there at n bytes))

pub leaf_outline : (at : ℕ) (e : Expr) (v : Value) → NoText e → v ≡ lists.no_value at → tree_seen (tree.Leaf at v) ≡ shut.expression_outline at e
unfolding shut.expression_outline
leaf_outline at e v other is =
    seen_leaf at v ∙ ap (lists.leaf at) is ∙ sym (ap (λ (o : Option (ℕ × List ℕ)). option_map_or (λ (s : ℕ × List ℕ). lists.text at s.0 s.1) o (lists.leaf at (lists.no_value at))) (has_none e other))

pub ruleset expression_laws = (text_outline, leaf_outline)

-- ---- values

pub value_outline : (at : ℕ) (e : Expr) → shut.outline_of (form.Value at e) ≡ shut.expression_outline at e
unfolding shut.outline_of shut.expression_outline
value_outline at e = ap lists.outline_of (sym (rolls-Value at e)) ∙ fold-roll-Init lists.Tree lists.outline_step (Init-F.Value at e)

list_outline : (at : ℕ) (is : List Init) → shut.outline_of (form.List at is) ≡ lists.branch at (lists.listed (map shut.outline_of is))
unfolding shut.outline_of
list_outline at is = ap lists.outline_of (sym (rolls-List at is)) ∙ fold-roll-Init lists.Tree lists.outline_step (Init-F.List at is)

pub list_made : (at : ℕ) (is : List Init) (ts : List Tree) → trees_seen ts ≡ map shut.outline_of is → tree_seen (tree.Branch at ts) ≡ shut.outline_of (form.List at is)
list_made at is ts h = seen_branch at ts ∙ ap (λ ts. lists.branch at (lists.listed ts)) h ∙ sym (list_outline at is)

pub ruleset outline_laws = (value_outline, list_made)

-- ---- initialisers

pub equals_outline : (at : ℕ) (i : Init) → shut.outline (initialiser.Equals at i) ≡ shut.outline_of i
unfolding shut.outline shut.outline_of
equals_outline at i = refl

pub brackets_outline : (at : ℕ) (es : List Expr) (ts : List Tree) → trees_seen ts ≡ map (shut.expression_outline at) es
    → tree_seen (tree.Branch at ts) ≡ shut.outline (initialiser.Arguments at es)
unfolding shut.outline shut.expression_outline
brackets_outline at es ts h = seen_branch at ts ∙ ap (λ ts. lists.branch at (lists.listed ts)) (h ∙ map_map es)
  where
    map_map : (es : List Expr) → map (λ e. lists.expression_outline at (elaborated e)) es ≡ map (lists.expression_outline at) (map elaborated es)
    map_map [] = refl
    map_map (e ∷ es) = ap (λ l. lists.expression_outline at (elaborated e) ∷ l) (map_map es)

pub ruleset initialiser_laws = (equals_outline, brackets_outline)
