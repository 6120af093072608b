-- Expressions in initialisers, by whether they are string literals alone.
use Rattle.std.proofs.Common.{◌≡◌, ℕ, List, Option, None, Some, refl, sym, ap, subst, ◌∙◌}
use Rattle.cf_syntax.specs.declared.declarator.DeclTree.{DeclTree}
use Rattle.cf_syntax.specs.declared.declarator.DeclTree.TheOpen.{Expr-F}
use Rattle.cf_syntax.specs.declared.declarator.DeclTree.TheFolds.{map-Expr}
use Rattle.cf_syntax.specs.declared.declarator.Param.{Param, fold-Param}
use Rattle.cf_syntax.specs.declared.declarator.TypeId.{TypeId, fold-TypeId}
use Rattle.cf_syntax.specs.declared.expression.Expr.{Expr, roll-Expr, ind-Expr}
use Rattle.cf_syntax.specs.declared.expression.Expr.TheVariants as form
use Rattle.cf_syntax.specs.declared.expression.Expr.TheVariants.{rolls-Text}
use Rattle.cf_types.specs.Table.{Table}
use Rattle.cf_elab.specs.Answer.{Elab, Made, onward}
use Rattle.cf_elab.specs.Declarator.{Declared, declared_step, parameter_step, type_id_step}
use Rattle.cf_elab.specs.Env.{Env}
use Rattle.cf_elab.specs.Expression.{elaborated, declared, expression_step}
use Rattle.cf_elab.specs.Lists as lists
use Rattle.cf_elab.specs.Operand.{Value, Part}
use Rattle.cf_elab.specs.Shape.{Parameter}
use Rattle.cf_elab_env.specs.Holds.{Known}
use Rattle.cf_elab_env.proofs.Growth.{grown_laws}
use Rattle.cf_elab_expr.specs.Shut as expression
use Rattle.cf_elab_expr.proofs.Parts.{made_of}
use Rattle.cf_elab_initial.specs.Lists.Known.{TreeKnown}
use Rattle.cf_elab_initial.specs.Lists.Seen.{tree_seen}
use Rattle.cf_elab_initial.specs.declared.lists.tree.Tree.TheVariants as tree
use Rattle.cf_elab_initial.proofs.ListsLaws.Rolled.{seen_leaf, seen_text}
use Rattle.cf_elab_declaration.specs.WrittenTrees.Shut as shut

abbrev parameter : Param → Elab Parameter
parameter = fold-Param Declared Part (Elab Parameter) (Elab ℕ) declared_step expression_step parameter_step type_id_step

abbrev type_of : TypeId → Elab ℕ
type_of = fold-TypeId Declared Part (Elab Parameter) (Elab ℕ) declared_step expression_step parameter_step type_id_step

abbrev text_of : Expr-F DeclTree Expr Param TypeId → Option (ℕ × List ℕ)
text_of x = (expression_step (map-Expr DeclTree Expr Param TypeId Declared Part (Elab Parameter) (Elab ℕ) declared elaborated parameter type_of x)).text

-- ---- a string literal

module _ (at n : ℕ) (bytes : List ℕ) where
  pub text_there : (elaborated (form.Text n bytes)).text ≡ Some (n, bytes)
  text_there = ap (λ e. (elaborated e).text) (sym (rolls-Text n bytes)) ∙ ap (λ (p : Part). p.text) (made_of (Expr-F.Text n bytes))

  pub text_made : (env : Env) → shut.expression_tree at (form.Text n bytes) env ≡ Made (tree_seen (tree.Text at n bytes)) env
  unfolding shut.expression_tree
  text_made env =
      ap (λ o. lists.leaf_or_text at (elaborated (form.Text n bytes)) o env) text_there ∙ ap (λ t. Made t env) (sym (seen_text at n bytes))

  pub text_known : (types : Table) → TreeKnown types (tree_seen (tree.Text at n bytes))
  text_known types = subst (TreeKnown types) (sym (seen_text at n bytes)) tt

-- ---- any other expression

abbrev pub NoText : Expr → Type 0
NoText e = (n : ℕ) (bytes : List ℕ) → e ≡ form.Text n bytes → ⊥

abbrev pub HasNone : Expr → Type 0
HasNone e = NoText e → (elaborated e).text ≡ None

none_of : (x : Expr-F DeclTree Expr Param TypeId) → NoText (roll-Expr x) → text_of x ≡ None
none_of (Expr-F.Text n bytes) other = absurd (other n bytes (rolls-Text n bytes))
none_of x other = refl

pub has_none : (e : Expr) → HasNone e
has_none =
    ind-Expr (λ _. Unit {0}) HasNone (λ _. Unit {0}) (λ _. Unit {0}) (λ _ _ _. tt)
    (λ x y is h. ap (λ (p : Part). p.text) (made_of x) ∙ none_of x h)
    (λ _ _ _. tt) (λ _ _ _. tt)

pub value_is : (at : ℕ) (e : Expr) (env : Env) → NoText e → shut.expression_tree at e env ≡ onward (expression.valued e env) (λ v env. Made (lists.leaf at v) env)
unfolding shut.expression_tree expression.valued
value_is at e env other = ap (λ o. lists.leaf_or_text at (elaborated e) o env) (has_none e other)

pub value_made : (at : ℕ) (e : Expr) (v : Value) (env new : Env) → NoText e → expression.valued e env ≡ Made v new
    → shut.expression_tree at e env ≡ Made (tree_seen (tree.Leaf at v)) new
value_made at e v env new other h =
    value_is at e env other ∙ ap (λ a. onward a (λ v env. Made (lists.leaf at v) env)) h ∙ ap (λ t. Made t new) (sym (seen_leaf at v))

pub leaf_known : (types : Table) (at : ℕ) (v : Value) → Known types v → TreeKnown types (tree_seen (tree.Leaf at v))
leaf_known types at v k = subst (TreeKnown types) (sym (seen_leaf at v)) k

pub ruleset text_laws = (text_made, text_known, value_is, value_made, leaf_known, grown_laws)
