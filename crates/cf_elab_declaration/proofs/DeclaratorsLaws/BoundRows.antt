-- Arrays whose initialisers give their bounds.
use Rattle.std.proofs.Common.{◌≡◌, ℕ, Bool, List, Option, None, Some, refl, sym, ap, ◌∙◌}
use Rattle.cf_syntax.specs.declared.name.Last.{Last}
use Rattle.cf_syntax.specs.declared.name.Last.TheVariants as last
use Rattle.cf_syntax.specs.declared.name.Name.{Name as WrittenName}
use Rattle.cf_unit.specs.declared.initialiser.Initialiser.{Initialiser}
use Rattle.cf_elab.specs.Answer.{Answer, Elab, Made, Refused, Passed, onward}
use Rattle.cf_elab.specs.Built.{of_name}
use Rattle.cf_elab.specs.Declaration as declaration
use Rattle.cf_elab.specs.Declaration.{Initial, initial_of}
use Rattle.cf_elab.specs.Env.{Env, Name}
use Rattle.cf_elab.specs.Objects.{Reached}
use Rattle.cf_elab.specs.Specifiers.{Gathered}
use Rattle.cf_elab_declaration.specs.Declarators.Shut as shut
use Rattle.cf_elab_declare.proofs.DeclaresLaws.NameLaws.{is_identifier}
use Rattle.cf_elab_declare.specs.Defines.Shut as define
use Rattle.cf_elab_env.proofs.Growth.{grown_laws}
use Rattle.cf_elab_initial.specs.Lists.Seen.{tree_seen}
use Rattle.cf_elab_initial.specs.declared.lists.tree.Tree.{Tree}
use Rattle.cf_elab_declaration.specs.WrittenTrees.Shut as written

module _ (in_file : Bool) (g : Gathered) (n : WrittenName) (u : ℕ) (own : Name) (named : n.last ≡ last.Ident own) (env : Env) where
  abbrev row : Option Initial → Name → ℕ → Elab (List Reached)
  row w name t = declaration.object_row in_file g name n.last_at t (declaration.parts_of w) w

  abbrev by_last : Option Initial → Last → Answer (List Reached)
  by_last w l = onward (declaration.plain_name n l env) (λ name env. onward (declaration.bound_given n.last_at u w env) (row w name))

  none_is : shut.unbounded in_file g n None u env ≡ Refused 26 n.last_at
  unfolding shut.unbounded
  none_is = ap (by_last None) named

  module _ (i : Initialiser) where
    same_row : (t : ℕ) (env : Env) → row (Some (initial_of i)) own t env ≡ shut.object_row in_file g n t (Some i) env
    unfolding shut.object_row
    same_row t env = sym (ap (λ (l : Last). onward (declaration.plain_name n l env) (λ name. row (Some (initial_of i)) name t)) named)

    behind_type : (a : Answer ℕ) → onward a (row (Some (initial_of i)) own) ≡ onward a (λ t env. shut.object_row in_file g n t (Some i) env)
    behind_type (Made t env) = same_row t env
    behind_type (Refused rule at) = refl
    behind_type (Passed b most) = refl

    some_is : shut.unbounded in_file g n (Some i) u env ≡ onward (define.array_given u (written.outline i) env) (λ t env. shut.object_row in_file g n t (Some i) env)
    unfolding shut.unbounded define.array_given written.outline
    some_is = ap (by_last (Some (initial_of i))) named ∙ behind_type (declaration.bound_given n.last_at u (Some (initial_of i)) env)

    given_is : (o : Option Initialiser) (x : Tree) (t : ℕ) (next : Env) → o ≡ Some i → tree_seen x ≡ written.outline i → define.array_given u (tree_seen x) env ≡ Made t next
        → shut.unbounded in_file g n o u env ≡ shut.object_row in_file g n t o next
    given_is o x t next is seen made =
        ap (λ o. shut.unbounded in_file g n o u env) is ∙ some_is
        ∙ ap (λ o. onward (define.array_given u o env) (λ t env. shut.object_row in_file g n t (Some i) env)) (sym seen)
        ∙ ap (λ a. onward a (λ t env. shut.object_row in_file g n t (Some i) env)) made
        ∙ ap (λ o. shut.object_row in_file g n t o next) (sym is)

-- ---- by a name that is built

named : (n : WrittenName) → of_name n ≡ None → (own : Name) × (n.last ≡ last.Ident own)
named n built = by n.last refl
  where
    by : (l : Last) → n.last ≡ l → (own : Name) × (n.last ≡ last.Ident own)
    by (last.Ident name) is = (name, is)
    by (last.Destructor name) is = absurd (is_identifier n built (λ other h. cc))
    by (last.Operator k) is = absurd (is_identifier n built (λ other h. cc))
    by (last.Conversion ss pointers) is = absurd (is_identifier n built (λ other h. cc))

module _ (in_file : Bool) (g : Gathered) (n : WrittenName) (u : ℕ) (built : of_name n ≡ None) (env : Env) (o : Option Initialiser) where
  pub none_bound : o ≡ None → shut.unbounded in_file g n o u env ≡ Refused 26 n.last_at
  none_bound is = ap (λ o. shut.unbounded in_file g n o u env) is ∙ none_is in_file g n u (named n built).0 (named n built).1 env

  pub given_bound : (i : Initialiser) (x : Tree) (t : ℕ) (next : Env) → o ≡ Some i → tree_seen x ≡ written.outline i → define.array_given u (tree_seen x) env ≡ Made t next
      → shut.unbounded in_file g n o u env ≡ shut.object_row in_file g n t o next
  given_bound i = given_is in_file g n u (named n built).0 (named n built).1 env i o

pub ruleset unbounded_laws = (none_bound, given_bound, grown_laws)
