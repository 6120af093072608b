-- Parameters as objects of the outermost block.
use Rattle.std.proofs.Common.{◌≡◌, ℕ, ◌+◌, List, [], ◌∷◌, length, None, Some, All, refl, sym, ap, subst, ◌∙◌}
use Rattle.std.proofs.lemmas.List.Elements.{All-head, All-tail}
use Rattle.cf_syntax.specs.declared.name.Last.{Last}
use Rattle.cf_syntax.specs.declared.name.Last.TheVariants as last
use Rattle.cf_syntax.specs.declared.name.Name.{Name as WrittenName}
use Rattle.cf_types.specs.Table.{Table}
use Rattle.cf_elab.specs.Answer.{Made as Done, Refused, onward}
use Rattle.cf_elab.specs.Env.{Env, Object, Name, local_home}
use Rattle.cf_elab.specs.Objects.{block_object}
use Rattle.cf_elab.specs.Shape.{Parameter}
use Rattle.cf_elab_unit.proofs.BodyLaws.DefineBlockObjects.{block_known}
use Rattle.cf_elab_env.specs.Holds.{IsType}
use Rattle.cf_elab_objects.specs.Objects.Shut as object
use Rattle.cf_elab_unit.specs.Definitions.Shut as shut
use Rattle.cf_elab_unit.proofs.DefinitionsLaws.Rows.{no_parameters, parameters_are}

module _ (i : ℕ) (ps : List Parameter) (env : Env) where
  pub nothing_declared : length ps ≡ 0 → shut.declare_parameters i ps env ≡ Done tt env
  nothing_declared none = ap (λ ps. shut.declare_parameters i ps env) (empty ps none) ∙ no_parameters i env
    where
      empty : (ps : List Parameter) → length ps ≡ 0 → ps ≡ []
      empty [] none = refl
      empty (p ∷ ps) none = cc

  pub first_declared : (rest : List Parameter) (p : Parameter) (j : ℕ) → ps ≡ p ∷ rest → j ≡ i + 1
      → shut.declare_parameters i ps env ≡ onward (shut.declare_parameter i p env) (λ _ e. shut.declare_parameters j rest e)
  first_declared rest p j is next =
      ap (λ ps. shut.declare_parameters i ps env) is ∙ parameters_are i p rest env
      ∙ ap (λ j. onward (shut.declare_parameter i p env) (λ _ e. shut.declare_parameters j rest e)) (sym next)

module _ (i : ℕ) (p : Parameter) (env : Env) where
  pub no_name : p.name ≡ None → shut.declare_parameter i p env ≡ Done tt env
  unfolding shut.declare_parameter
  no_name is = ap (λ o. shut.declare_parameter i (record p { name = o }) env) is

  pub has_name : (n : WrittenName) → p.name ≡ Some n → shut.declare_parameter i p env ≡ shut.named_parameter i p.type n env
  unfolding shut.declare_parameter
  has_name n is = ap (λ o. shut.declare_parameter i (record p { name = o }) env) is

module _ (i t : ℕ) (n : WrittenName) (env : Env) where
  pub identifier : (name : Name) (x : Object) → n.last ≡ last.Ident name → x ≡ block_object t (local_home i) n.last_at
      → shut.named_parameter i t n env ≡ object.declare_in_block name n.last_at x env
  unfolding shut.named_parameter object.declare_in_block
  identifier name x is made =
      ap (λ l. shut.named_parameter i t (record n { last = l }) env) is ∙ ap (λ x. object.declare_in_block name n.last_at x env) (sym made)

  pub no_identifier : ((name : Name) → n.last ≡ last.Ident name → ⊥) → shut.named_parameter i t n env ≡ Refused 26 n.last_at
  unfolding shut.named_parameter
  no_identifier other = by n.last other
    where
      by : (l : Last) → ((name : Name) → l ≡ last.Ident name → ⊥) → shut.named_parameter i t (record n { last = l }) env ≡ Refused 26 n.last_at
      by (last.Ident name) other = absurd (other name refl)
      by (last.Destructor name) other = refl
      by (last.Operator k) other = refl
      by (last.Conversion ss pointers) other = refl

pub first_typed : (types : Table) (ps rest : List Parameter) (p : Parameter) → ps ≡ p ∷ rest → All (λ p. IsType types p.type) ps → IsType types p.type
first_typed types ps rest p is all =
    All-head (λ (p : Parameter). IsType types p.type) p rest (subst (All (λ (p : Parameter). IsType types p.type)) is all)

pub rest_typed : (a b : Table) (ps rest : List Parameter) (p : Parameter) → ps ≡ p ∷ rest → b ≡ a → All (λ p. IsType a p.type) ps → All (λ p. IsType b p.type) rest
rest_typed a b ps rest p is same all =
    subst (λ t. All (λ (p : Parameter). IsType t p.type) rest) (sym same)
    (All-tail (λ (p : Parameter). IsType a p.type) p rest (subst (All (λ (p : Parameter). IsType a p.type)) is all))

pub ruleset all_laws = (nothing_declared, first_declared, first_typed, rest_typed)

pub ruleset one_laws = (no_name, has_name)

pub ruleset named_laws = (identifier, no_identifier, block_known)
