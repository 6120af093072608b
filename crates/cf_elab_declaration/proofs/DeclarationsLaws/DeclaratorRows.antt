-- Declarators behind their specifiers.
use Rattle.std.proofs.Common.{◌≡◌, ℕ, ◌<◌, false, List, [], ◌∷◌, length, Option, None, Some, IfSome, refl, sym, ap, subst, ◌∙◌, arith}
use Rattle.cf_syntax.specs.declared.name.Name.{Name as WrittenName}
use Rattle.cf_types.specs.Table.{Table}
use Rattle.cf_unit.specs.declared.declaration.InitDeclarator.{InitDeclarator}
use Rattle.cf_elab.specs.Answer.{Answer, Elab, Made, Refused, onward}
use Rattle.cf_elab.specs.Built.{of_name}
use Rattle.cf_elab.specs.Declaration as row
use Rattle.cf_elab.specs.Complete.{types_within}
use Rattle.cf_elab.specs.Declaration.{Initial, initial_of, declares}
use Rattle.cf_elab.specs.Env.{Env, Name}
use Rattle.cf_elab.specs.Expression.{declared}
use Rattle.cf_elab.specs.Names.{is_file_scope}
use Rattle.cf_elab.specs.Objects.{Reached}
use Rattle.cf_elab.specs.Specifiers.{Gathered}
use Rattle.cf_elab_declaration.specs.Declarators.Shut as named
use Rattle.cf_elab_declaration.specs.Declarators.DeclareShut as declare
use Rattle.cf_elab_env.specs.Answered.{Stops}
use Rattle.cf_elab_env.specs.Holds.{Grows, IsType}
use Rattle.cf_elab_env.specs.declared.stop.Stop.{Stop}
use Rattle.cf_elab_env.specs.declared.stop.Stop.TheVariants as stop
use Rattle.cf_elab_env.proofs.Growth.{type_grown, grown_laws}
use Rattle.cf_elab_declaration.specs.Enums.ExprShut as expression
use Rattle.cf_elab_declaration.specs.WrittenTrees.Given.{given}
use Rattle.cf_elab_limits.specs.Shut as limits
use Rattle.cf_elab_declaration.specs.Declarations.Shut as shut
use Rattle.cf_elab_declaration.proofs.DeclarationsLaws.NamesBuilt.{name_plain, no_scopes}

pub type_grown_if : (a b : Table) (o : Option ℕ) → Grows a b → IfSome o (λ t. IsType a t) → IfSome o (λ t. IsType b t)
type_grown_if a b None g k = tt
type_grown_if a b (Some t) g k = type_grown a b t g k

-- what stops the first of two stops both
pub stops_onward : {A B : Type 0} (a : Answer A) (go : A → Elab B) (s : Stop) → Stops a s → Stops (onward a go) s
stops_onward a go (stop.Broken b) h = ap (λ a. onward a go) h
stops_onward a go (stop.Passed l) h = ap (λ a. onward a go) h
stops_onward a go stop.Memory h = tt

-- ---- none, or several

pub nothing_declared : (at : ℕ) (g : Gathered) (ds : List InitDeclarator) (env : Env) → length ds ≡ 0
    → shut.behind_specifiers at g ds env ≡ onward (declare.no_conflict (is_file_scope env.scopes) false at g env) (λ _ env. Made [] env)
unfolding shut.behind_specifiers declare.no_conflict
nothing_declared at g [] env none = refl
nothing_declared at g (d ∷ ds) env none = cc

pub something_declared : (at : ℕ) (g : Gathered) (ds : List InitDeclarator) (env : Env) → 0 < length ds → shut.behind_specifiers at g ds env ≡ shut.declarators g ds env
unfolding shut.behind_specifiers shut.declarators
something_declared at g [] env some = absurd (omega arith)
something_declared at g (d ∷ ds) env some = refl

pub ruleset all_laws = (nothing_declared, something_declared, grown_laws)

-- ---- one

module _ (g : Gathered) (d : InitDeclarator) (env : Env) where
  abbrev by_name : Option WrittenName → Answer (List Reached)
  by_name o = row.with_name g d.at (given d.initialiser) (declared d.declarator).shape o env

  pub unnamed_is : None ≡ expression.name_of d.declarator → shut.declarator g d env ≡ onward (expression.shape_of d.declarator env) (λ s env. Refused 26 d.at)
  unfolding shut.declarator expression.name_of expression.shape_of
  unnamed_is none = ap by_name (sym none)

  abbrev by_scopes : WrittenName → List Name → Answer (List Reached)
  by_scopes n scopes = row.declarator_of_name g d.at (given d.initialiser) (declared d.declarator).shape n scopes env

  pub named_is : (n : WrittenName) → Some n ≡ expression.name_of d.declarator → of_name n ≡ None
      → shut.declarator g d env ≡ onward (expression.shape_of d.declarator env) (λ s env. named.named_declarator g d.at d.initialiser s n env)
  unfolding shut.declarator expression.name_of expression.shape_of named.named_declarator
  named_is n is plain = ap by_name (sym is) ∙ ap (by_scopes n) (no_scopes n plain)

  -- with a name or without
  pub shape_stops : expression.TreeIsBuilt d.declarator → (s : Stop) → Stops (expression.shape_of d.declarator env) s → Stops (shut.declarator g d env) s
  shape_stops built s h = by (expression.name_of d.declarator) refl
    where
      by : (o : Option WrittenName) → expression.name_of d.declarator ≡ o → Stops (shut.declarator g d env) s
      by None is =
          subst (λ a. Stops a s) (sym (unnamed_is (sym is))) (stops_onward (expression.shape_of d.declarator env) (λ x env. let none : Answer (List Reached) = Refused 26 d.at in none) s h)
      by (Some n) is =
          subst (λ a. Stops a s) (sym (named_is n (sym is) (name_plain d.declarator n built (sym is))))
          (stops_onward (expression.shape_of d.declarator env) (λ x env. named.named_declarator g d.at d.initialiser x n env) s h)

-- and what it made is no larger than the limit
pub limited_is : (g : Gathered) (d : InitDeclarator) (env : Env) (n : ℕ) → n ≡ length env.types.types
    → shut.limited g d env ≡ onward (shut.declarator g d env) (λ xs e. onward (limits.types_within n e) (λ _ e. Made xs e))
unfolding shut.limited shut.declarator limits.types_within
limited_is g d env n is = ap (λ n. onward (row.declarator_row g (declares d) env) (λ xs e. onward (types_within n e) (λ _ e. Made xs e))) (sym is)

pub ruleset limited_laws = (limited_is, grown_laws)

pub ruleset declarator_laws = (unnamed_is, named_is, name_plain, type_grown_if, grown_laws)
