-- The place that a name stands for, by whether its type is a reference.
use Rattle.std.proofs.Common.{◌≡◌, ℕ, Bool, true, false, if◌then◌else◌, Option, Some, None, refl, sym, ap, subst, ◌∙◌}
use Rattle.cc_whole.specs.Plain.{Expression, named, load, address}
use Rattle.cf_core.specs.Types.{Name, SourceType, void, takes, gives}
use Rattle.cf_core.specs.Places.{is_reference}
use Rattle.cf_lower_layout.specs.Sorts.{sort_to}
use Rattle.cf_lower.specs.Kept.{referred}
use Rattle.cf_lower.specs.Expressions.{as_value, place_named}
use Rattle.cf_lower_names.specs.declared.cell.Cell.TheVariants as cell
use Rattle.cf_lower_names.specs.Cells.{sort_for}
use Rattle.cf_core.specs.FromTypes.{Tables, type_of}
use Rattle.cf_lower_types.specs.Bare.{is_code, Refers}

named_reference : (name : Name) (t : SourceType) → is_reference t ≡ true → place_named name t ≡ as_value (sort_to (referred t)) (load (named name))
named_reference name t e = by (is_reference t) e
  where
    by : (b : Bool) → b ≡ true → elim b as (λ _. Expression) [ true ↦ as_value (sort_to (referred t)) (load (named name)) | false ↦ address name ]
        ≡ as_value (sort_to (referred t)) (load (named name))
    by true e = refl
    by false e = cc

named_itself : (name : Name) (t : SourceType) → is_reference t ≡ false → place_named name t ≡ address name
named_itself name t e = by (is_reference t) e
  where
    by : (b : Bool) → b ≡ false → elim b as (λ _. Expression) [ true ↦ as_value (sort_to (referred t)) (load (named name)) | false ↦ address name ] ≡ address name
    by true e = cc
    by false e = refl

-- a name and a type that are the same
pub named_same : (n m : Name) (t u : SourceType) (e : Expression) → n ≡ m → u ≡ t → e ≡ place_named n u → e ≡ place_named m t
named_same n m t u e name type is = is ∙ ap (λ k. place_named k u) name ∙ ap (place_named m) type

-- where there is no local
pub named_void : (n m : Name) (t : SourceType) (e : Expression) → n ≡ m → void ≡ t → e ≡ address n → e ≡ place_named m t
named_void n m t e name none is = is ∙ ap address name ∙ ap (place_named m) none

-- a pointer is cast as one to a function, or as an address
by_code : (t : SourceType) (e : Expression) → as_value (sort_for (if is_code (sort_to t) then cell.Code else cell.Address)) e ≡ as_value (sort_to t) e
by_code (takes p u) e = refl
by_code (gives u c) e = refl
by_code u e = refl

module _ (tables : Tables) (t : ℕ) (name : Name) (o : Option ℕ) where
  pub by_reference : (u : ℕ) → Refers tables t o → o ≡ Some u
      → as_value (sort_for (if is_code (sort_to (type_of tables u)) then cell.Code else cell.Address)) (load (named name)) ≡ place_named name (type_of tables t)
  by_reference u r k =
      let found : Refers tables t (Some u) = subst (Refers tables t) k r in
      by_code (type_of tables u) (load (named name)) ∙ sym (ap (λ w. as_value (sort_to w) (load (named name))) found.1)
      ∙ sym (named_reference name (type_of tables t) found.0)

  pub by_itself : Refers tables t o → o ≡ None → address name ≡ place_named name (type_of tables t)
  by_itself r k =
      let found : Refers tables t None = subst (Refers tables t) k r in sym (named_itself name (type_of tables t) found)
