-- Which kinds an integer has that an action of code gives, by its form.
use Rattle.std.proofs.Common.{◌≡◌, ℕ, Bool, List, Option, sym, ap, subst, true}
use Rattle.std.specs.Option.{option_map}
use Rattle.cf_base.specs.declared.kind.Kind.{Kind}
use Rattle.cf_core.specs.declared.operators.UnaryOperator.{UnaryOperator}
use Rattle.cf_core.specs.FromTypes.{Tables, type_of}
use Rattle.cf_core.specs.Types.{Name, result as result_type}
use Rattle.cf_lower.specs.Kept.{Keeping, integer_of, kept_by, of_sort, read_kept, within}
use Rattle.cf_lower_held.specs.declared.scene.Scene.{Scene}
use Rattle.cf_lower_held.specs.Scenes.{action_in, locals_in}
use Rattle.cf_lower_layout.specs.Sorts.{sort_of}
use Rattle.cf_lower_types.specs.declared.place.PlaceType.{PlaceType}
use Rattle.cf_lower_types.specs.declared.scalar.Scalar.{Scalar}
use Rattle.cf_lower_types.specs.Bare.{sort_in, type_in}
use Rattle.cf_plain.specs.declared.action.Action.{Action as CodeAction}
use Rattle.cf_plain.specs.declared.action.Action.TheVariants as code
use Rattle.cf_lowerable_places.specs.declared.content.Content.{Content}
use Rattle.cf_lowerable_places.specs.declared.content.Content.TheVariants as content
use Rattle.cf_lowerable_places.specs.Contents.{known}
use Rattle.cf_lowerable_places.proofs.Giving.{Fit, scalar_fits}

module _ (x : Scene) (g : Keeping) (a : CodeAction) (f : Kind → Bool) where
  abbrev Given : CodeAction → Type 0
  Given b = Fit (kept_by (locals_in x) g (action_in x b)) f

  pub unary_given : (o : UnaryOperator) (k : Kind) (r : ℕ) → a ≡ code.Unary o k r → f ≡ within k → Given a
  unary_given o k r is e = subst Given (sym is) (ap integer_of e)

  pub truth_given : (r : ℕ) → a ≡ code.Truth r → f ≡ (λ j. true) → Given a
  truth_given r is e = subst Given (sym is) (ap integer_of e)

  pub not_given : (r : ℕ) → a ≡ code.Not r → f ≡ (λ j. true) → Given a
  not_given r is e = subst Given (sym is) (ap integer_of e)

  module _ (s : Option Scalar) (fit : Fit (of_sort (option_map (sort_in x.tables.now) s)) f) where
    pub convert_given : (t r : ℕ) → a ≡ code.Convert t r → option_map (sort_in x.tables.now) s ≡ sort_of (type_of x.tables.now t) → Given a
    convert_given t r is of = subst Given (sym is) (scalar_fits _ _ f fit of)

    pub call_given : (n : Name) (t : ℕ) (o p : Option ℕ) (is : List ℕ) → a ≡ code.Call n t o is p
        → option_map (sort_in x.tables.now) s ≡ sort_of (result_type (type_of x.tables.now t)) → Given a
    call_given n t o p is at of = subst Given (sym at) (scalar_fits _ _ f fit of)

    pub pointed_given : (t r : ℕ) (o p : Option ℕ) (is : List ℕ) → a ≡ code.PointerCall o r t is p
        → option_map (sort_in x.tables.now) s ≡ sort_of (result_type (type_of x.tables.now t)) → Given a
    pointed_given t r o p is at of = subst Given (sym at) (scalar_fits _ _ f fit of)

pub place_read : (tables : Tables) (k : Content) (p : PlaceType) (s : Option Scalar) (f : Kind → Bool) → k ≡ content.Place p → Fit (of_sort (option_map (sort_in tables) s)) f
    → option_map (sort_in tables) s ≡ sort_of (type_in tables p) → Fit (read_kept (known tables k)) f
place_read tables k p s f is fit of = subst (λ c. Fit (read_kept (known tables c)) f) (sym is) (scalar_fits _ _ f fit of)
