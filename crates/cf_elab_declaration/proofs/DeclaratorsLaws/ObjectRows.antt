-- Objects with their initialisers.
use Rattle.std.proofs.Common.{◌≡◌, ℕ, Bool, not, ◌&&◌, ◌||◌, Option, None, Some, is_some, refl, sym, ap, subst, ◌∙◌}
use Rattle.cf_syntax.specs.declared.name.Last.{Last}
use Rattle.cf_syntax.specs.declared.name.Last.TheVariants as last
use Rattle.cf_syntax.specs.declared.name.Name.{Name as WrittenName}
use Rattle.cf_types.specs.Table.{Table}
use Rattle.cf_unit.specs.declared.initialiser.Initialiser.{Initialiser}
use Rattle.cf_elab.specs.Answer.{Made, onward}
use Rattle.cf_elab.specs.Declaration as declaration
use Rattle.cf_elab.specs.Declaration.{initial_of}
use Rattle.cf_elab.specs.Env.{Env, Name}
use Rattle.cf_elab.specs.Objects.{Says}
use Rattle.cf_elab.specs.Specifiers.{Gathered, is_extern}
use Rattle.cf_elab_declaration.specs.Declarators.Shut as shut
use Rattle.cf_elab_declare.specs.Declares.Shut as declare
use Rattle.cf_elab_declare.proofs.DeclaresLaws.Rows.{object_is}
use Rattle.cf_elab_env.specs.Holds.{Grows, IsType}
use Rattle.cf_elab_env.proofs.Growth.{grown_laws}
use Rattle.cf_elab_limits.specs.Shut as limits
use Rattle.cf_elab_declaration.specs.WrittenTrees.Given.{given, place_of}
use Rattle.cf_elab_declaration.specs.WrittenTrees.Shut as written

pub nodes_are : (in_file : Bool) (d : Says) (i : Option Initialiser) (env : Env)
    → shut.nodes in_file d i env ≡ onward (declare.begin in_file d env) (λ b env. onward (written.parts_of i env) (λ w env. declare.finish b d (place_of i) w env))
unfolding shut.nodes
nodes_are in_file d i env = refl

pub types_same : (a b : Table) (t : ℕ) → b ≡ a → IsType a t → IsType b t
types_same a b t is k = subst (λ (x : Table). IsType x t) (sym is) k

pub grows_same : (a b c : Table) → b ≡ a → Grows b c → Grows a c
grows_same a b c is g = subst (λ (x : Table). Grows x c) is g

pub ruleset node_laws = (nodes_are, types_same, grows_same, grown_laws)

module _ (in_file : Bool) (g : Gathered) (n : WrittenName) (t : ℕ) (own : Name) (named : n.last ≡ last.Ident own) (env : Env) where
  abbrev its_says : Bool → Says
  its_says given = declaration.object_says g own n.last_at t (not (is_extern g) || (in_file && given)) given

  pub row_is : (i : Option Initialiser) (d : Says) → d ≡ its_says (is_some i)
      → shut.object_row in_file g n t i env
      ≡ onward (declare.check_object n.last_at t env) (λ _ env. onward (shut.nodes in_file d i env) (λ xs env. onward (limits.type_within t env) (λ _ env. Made xs env)))
  unfolding shut.object_row shut.nodes limits.type_within written.parts_of
  row_is i d is =
      ap (λ (l : Last). onward (declaration.plain_name n l env) (λ name. declaration.object_row in_file g name n.last_at t (declaration.parts_of (given i)) (given i))) named
      ∙ by i ∙ ap (λ d. onward (declare.check_object n.last_at t env) (λ _ env. onward (shut.nodes in_file d i env) (λ xs env. onward (limits.type_within t env) (λ _ env. Made xs env)))) (sym is)
    where
      by : (i : Option Initialiser)
          → declaration.object_row in_file g own n.last_at t (declaration.parts_of (given i)) (given i) env
          ≡ onward (declare.check_object n.last_at t env) (λ _ env. onward (shut.nodes in_file (its_says (is_some i)) i env) (λ xs env. onward (limits.type_within t env) (λ _ env. Made xs env)))
      by None = object_is own n.last_at t (declaration.parts_of None) in_file g None (λ _ e. refl) env
      by (Some x) = object_is own n.last_at t (declaration.parts_of (Some (initial_of x))) in_file g (Some (initial_of x)) (λ h e. cc) env

pub ruleset object_laws = (row_is, grown_laws)
