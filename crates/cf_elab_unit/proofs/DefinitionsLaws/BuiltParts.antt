-- The parts of a function that is built are built.
use Rattle.std.proofs.Common.{◌≡◌, List, [], ◌∷◌, map, None, Some, refl, sym, ◌∙◌}
use Rattle.cf_unit.specs.declared.class.FunctionDef.{FunctionDef, out-FunctionDef}
use Rattle.cf_unit.specs.declared.class.Member.TheFolds.{fold_out-FunctionDef}
use Rattle.cf_unit.specs.declared.class.MemberInit.{MemberInit}
use Rattle.cf_elab.specs.Built as built
use Rattle.cf_elab.specs.Built.{Place, first, first_of, of_member_init, member_step, specifier_step, statement_step, class_step, function_step, declaration_step}
use Rattle.cf_elab_unit.specs.Body.Shut as body_of
use Rattle.cf_elab_built.specs.Built.Parts as place
use Rattle.cf_elab_unit.specs.Body.DeclarationShut as declaration
use Rattle.cf_elab_unit.specs.Body.ExprShut as expression
use Rattle.cf_elab_unit.proofs.BodyLaws.ExprBuiltForms.{left, right}
use Rattle.cf_elab_unit.specs.Definitions.Shut.{IsBuilt}

module _ (f : FunctionDef) (h : IsBuilt f) where
  abbrev of_specifiers : Place
  of_specifiers = first_of (map place.specifier (out-FunctionDef f).specifiers)

  abbrev of_initialisers : Place
  of_initialisers = first_of (map of_member_init (out-FunctionDef f).initialisers)

  abbrev of_body : Place
  of_body = first_of (map place.statement (out-FunctionDef f).body)

  abbrev of_tree : Place
  of_tree = built.declarator (out-FunctionDef f).declarator

  whole : first of_specifiers (first of_tree (first of_initialisers of_body)) ≡ None
  unfolding IsBuilt
  whole = sym (fold_out-FunctionDef Place Place Place Place Place Place member_step specifier_step statement_step class_step function_step declaration_step f) ∙ h

  behind_specifiers : first of_tree (first of_initialisers of_body) ≡ None
  behind_specifiers = right of_specifiers (first of_tree (first of_initialisers of_body)) whole

  behind_tree : first of_initialisers of_body ≡ None
  behind_tree = right of_tree (first of_initialisers of_body) behind_specifiers

  pub function_specifiers : declaration.SpecifiersAreBuilt (out-FunctionDef f).specifiers
  unfolding declaration.SpecifiersAreBuilt
  function_specifiers = left of_specifiers (first of_tree (first of_initialisers of_body)) whole

  pub function_tree : expression.TreeIsBuilt (out-FunctionDef f).declarator
  unfolding expression.TreeIsBuilt
  function_tree = left of_tree (first of_initialisers of_body) behind_specifiers

  pub function_body : body_of.AreBuilt (out-FunctionDef f).body
  unfolding body_of.AreBuilt
  function_body = right of_initialisers of_body behind_tree

  pub no_initialisers : (out-FunctionDef f).initialisers ≡ []
  no_initialisers = by (out-FunctionDef f).initialisers (left of_initialisers of_body behind_tree)
    where
      by : (is : List MemberInit) → first_of (map of_member_init is) ≡ None → is ≡ []
      by [] h = refl
      by (i ∷ is) h = let e : Some i.path.at ≡ None = left (Some i.path.at) (first_of (map of_member_init is)) h in absurd cc

pub ruleset function_laws = (function_specifiers, function_tree, function_body)
