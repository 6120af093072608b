-- A function with its body is its specifiers, its declarator, and then what is defined.
use Rattle.std.proofs.Common.{◌≡◌, ℕ, List, [], map, length, Option, None, Some, refl, sym, ap, subst, ◌∙◌}
use Rattle.cf_syntax.specs.declared.declarator.DeclTree.{DeclTree}
use Rattle.cf_syntax.specs.declared.name.Name.{Name as WrittenName}
use Rattle.cf_unit.specs.declared.class.FunctionDef.{FunctionDef, out-FunctionDef}
use Rattle.cf_unit.specs.declared.class.Member.TheFolds.{fold_out-FunctionDef}
use Rattle.cf_unit.specs.declared.class.MemberInit.{MemberInit}
use Rattle.cf_unit.specs.declared.specifier.Specifier.{Specifier}
use Rattle.cf_unit.specs.declared.statement.Stmt.{Stmt}
use Rattle.cf_elab.specs.Answer.{Answer, Elab, Refused, onward}
use Rattle.cf_elab.specs.Built.{of_name}
use Rattle.cf_elab.specs.Definition as definition
use Rattle.cf_elab.specs.Env.{Env, Name}
use Rattle.cf_elab.specs.Expression.{declared}
use Rattle.cf_elab.specs.Specifiers.{Word, Gathered, gathered}
use Rattle.cf_elab.specs.Statement.{Made}
use Rattle.cf_elab.specs.Trees as tree
use Rattle.cf_elab.specs.Trees.{MemberRow, SpecifierRow, ClassRow, FunctionRow, DeclarationRow, init_of, member_step, specifier_step, statement_step, class_step, definition_step, declaration_step}
use Rattle.cf_elab_unit.specs.Body.DeclarationShut as declaration
use Rattle.cf_elab_unit.proofs.BodyLaws.DeclarationDeclaratorRows.{type_grown_if, stops_onward}
use Rattle.cf_elab_unit.proofs.BodyLaws.DeclarationNamesBuilt.{name_plain, no_scopes}
use Rattle.cf_elab_unit.proofs.BodyLaws.DeclarationWorded.{words_then}
use Rattle.cf_elab_env.specs.Answered.{Stops}
use Rattle.cf_elab_env.specs.declared.stop.Stop.{Stop}
use Rattle.cf_elab_env.proofs.Growth.{grown_laws}
use Rattle.cf_elab_unit.specs.Body.ExprShut as expression
use Rattle.cf_elab_limits.specs.Shut as limits
use Rattle.cf_elab_unit.specs.Definitions.Shut as shut
use Rattle.cf_elab_unit.proofs.DefinitionsLaws.BuiltParts.{no_initialisers}

pub function_is : (f : FunctionDef) (env : Env) → shut.IsBuilt f
    → shut.function f env
    ≡ shut.of_parts (out-FunctionDef f).specifiers (out-FunctionDef f).declarator_at (out-FunctionDef f).declarator (out-FunctionDef f).body_at (out-FunctionDef f).body env
unfolding shut.function shut.of_parts
function_is f env h =
    ap (λ (r : FunctionRow). r.in_file env)
    (fold_out-FunctionDef MemberRow SpecifierRow (Elab Made) ClassRow FunctionRow DeclarationRow member_step specifier_step statement_step class_step definition_step declaration_step f)
    ∙ ap (λ (is : List MemberInit). tree.definition_row (map declaration.specifier (out-FunctionDef f).specifiers) (out-FunctionDef f).declarator_at (declared (out-FunctionDef f).declarator) (map init_of is)
    (definition.body_of (out-FunctionDef f).body_at (map tree.statement (out-FunctionDef f).body)) env) (no_initialisers f h)

module _ (ss : List Specifier) (at : ℕ) (d : DeclTree) (body_at : ℕ) (body : List Stmt) (env : Env) where
  -- behind the words, where the table had so many types before
  abbrev behind_words : ℕ → List Word → Elab (Unit {0})
  behind_words n ws e = onward (shut.behind_specifiers n (gathered ws) at d body_at body e) (λ _. limits.types_within n)

  pub parts_are : (n : ℕ) → n ≡ length env.types.types → declaration.SpecifiersAreBuilt ss
      → shut.of_parts ss at d body_at body env
      ≡ onward (declaration.words None ss env) (λ ws e. onward (shut.behind_specifiers n (gathered ws) at d body_at body e) (λ _ e. limits.types_within n e))
  unfolding shut.of_parts shut.behind_specifiers limits.types_within
  parts_are n is built =
      words_then None ss (behind_words (length env.types.types)) env built
      ∙ ap (λ n. onward (declaration.words None ss env) (behind_words n)) (sym is)

pub ruleset part_laws = (parts_are, grown_laws)

module _ (count : ℕ) (g : Gathered) (at : ℕ) (d : DeclTree) (body_at : ℕ) (body : List Stmt) (env : Env) where
  abbrev by_name : Option WrittenName → Answer (Unit {0})
  by_name o = definition.with_written_name count g at (declared d).shape [] (definition.body_of body_at (map tree.statement body)) o env

  pub unnamed_is : None ≡ expression.name_of d → shut.behind_specifiers count g at d body_at body env ≡ onward (expression.shape_of d env) (λ s env. Refused 26 at)
  unfolding shut.behind_specifiers expression.name_of expression.shape_of
  unnamed_is none = ap by_name (sym none)

  abbrev by_scopes : WrittenName → List Name → Answer (Unit {0})
  by_scopes n scopes = definition.definition_of_name count g at (declared d).shape [] (definition.body_of body_at (map tree.statement body)) n scopes env

  pub name_is : (n : WrittenName) → Some n ≡ expression.name_of d → of_name n ≡ None
      → shut.behind_specifiers count g at d body_at body env ≡ onward (expression.shape_of d env) (λ s env. shut.named count g at s n body_at body env)
  unfolding shut.behind_specifiers shut.named expression.name_of expression.shape_of
  name_is n is plain = ap by_name (sym is) ∙ ap (by_scopes n) (no_scopes n plain)

  -- with a name or without
  pub shape_stops : expression.TreeIsBuilt d → (s : Stop) → Stops (expression.shape_of d env) s → Stops (shut.behind_specifiers count g at d body_at body env) s
  shape_stops built s h = by (expression.name_of d) refl
    where
      by : (o : Option WrittenName) → expression.name_of d ≡ o → Stops (shut.behind_specifiers count g at d body_at body env) s
      by None is =
          subst (λ a. Stops a s) (sym (unnamed_is (sym is))) (stops_onward (expression.shape_of d env) (λ x env. let none : Answer (Unit {0}) = Refused 26 at in none) s h)
      by (Some n) is =
          subst (λ a. Stops a s) (sym (name_is n (sym is) (name_plain d n built (sym is))))
          (stops_onward (expression.shape_of d env) (λ x env. shut.named count g at x n body_at body env) s h)

pub ruleset specifier_laws = (unnamed_is, name_is, name_plain, type_grown_if, grown_laws)
