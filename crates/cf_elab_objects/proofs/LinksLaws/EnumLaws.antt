-- Enumerations in link names: no class is around one.
use Rattle.std.proofs.lemmas.Bool.{eqb-true}
use Rattle.std.proofs.Common.{◌≡◌, ℕ, suc, ◌==◌, true, length, arith, List, [], ◌∷◌, ◌++◌, Option, None, Some, slice_get, refl, sym, ap, ◌∙◌}
use Rattle.std.specs.Option.{option_map_or}
use Rattle.cf_classes.specs.declared.label.Label.{Label}
use Rattle.cf_classes.specs.LinkName.{counted, scope_code, class_names}
use Rattle.cf_elab.specs.Env.{Env}
use Rattle.cf_elab_env.specs.Holds.{IsEnv}
use Rattle.cf_elab_env.proofs.Sorts.{at_place}
use Rattle.cf_elab_objects.specs.Links.Shut as shut
use Rattle.cf_elab_objects.specs.Links.Text.{added}

abbrev named_in : List (List ℕ) → List ℕ → List (List ℕ)
named_in outer [] = []
named_in outer (b ∷ bs) = outer ++ (b ∷ bs) ∷ []

module _ (env : Env) (number : ℕ) (l : Label) (e : IsEnv env) (has : slice_get env.classes.enums number ≡ Some l) where
  abbrev names_of : Option Label → List (List ℕ)
  names_of None = []
  names_of (Some l) = named_in (option_map_or (class_names env.classes) l.outer []) l.name

  its_code : shut.enum_code env number ≡ scope_code (named_in [] l.name)
  unfolding shut.enum_code
  its_code =
      let outer : l.outer ≡ None = at_place (λ (l : Label). l.outer ≡ None) env.classes.enums number l e.no_outer has in
      ap (λ o. scope_code (names_of o)) has ∙ ap (λ o. scope_code (named_in (option_map_or (class_names env.classes) o []) l.name)) outer

  pub its_label : (name : List ℕ) (o n : Option (List ℕ)) → name ≡ l.name → n ≡ added (shut.label_code name) o → n ≡ added (shut.enum_code env number) o
  unfolding shut.label_code
  its_label name o n is h = h ∙ ap (λ l. added l o) (by name ∙ sym (its_code ∙ ap (λ w. scope_code (named_in [] w)) (sym is)))
    where
      by : (w : List ℕ) → shut.label_code w ≡ scope_code (named_in [] w)
      by [] = refl
      by (b ∷ bs) = refl

pub empty : {A : Type 0} (xs : List A) → true ≡ (length xs == 0) → xs ≡ []
empty [] h = refl
empty (x ∷ xs) h = absurd (omega (arith, eqb-true (suc (length xs)) 0 (sym h)))

pub no_label : (name : List ℕ) (o : Option (List ℕ)) → name ≡ [] → o ≡ added (shut.label_code name) o
unfolding shut.label_code added
no_label name o e = ap (λ l. added (shut.label_code l) o) (sym e)

pub some_label : (name : List ℕ) (o n : Option (List ℕ)) → (name ≡ [] → ⊥) → n ≡ added (counted name) o → n ≡ added (shut.label_code name) o
unfolding shut.label_code
some_label [] o n some h = absurd (some refl)
some_label (b ∷ bs) o n some h = h

pub ruleset enum_laws = (its_label)

pub ruleset label_laws = (no_label, some_label)
