-- What holds of a type by its number is made from what holds of the types that it names.
use Rattle.std.proofs.Common.{◌≡◌, ℕ, zero, suc, ◌<◌, ◌==◌, Bool, true, false, List, [], ◌∷◌, ◌++◌, length, Some, slice_get, refl, sym, ap, ◌∙◌, arith, true≢false, append_assoc, length-append, eq-eqb}
use Rattle.std.proofs.lemmas.List.{reverse-append, length-reverse}
use Rattle.std.proofs.lemmas.Bool.{eqb-true}
use Rattle.std.specs.Prelude.{reverse}
use Rattle.cf_types.specs.declared.ty.Ty.{Ty}
use Rattle.cf_types.specs.Table.{Table}
use Rattle.cf_classes.specs.TypeTree.{of_types, of_type}

-- a list, split at the place of an item
split : (xs : List Ty) (t : ℕ) (ty : Ty) → slice_get xs t ≡ Some ty → (front : List Ty) × (back : List Ty) × (xs ≡ front ++ ty ∷ back) × (length front ≡ t)
split [] t ty h = cc
split (x ∷ xs) zero ty h = let e : x ≡ ty = cc in ([], xs, ap (λ y. y ∷ xs) e, refl)
split (x ∷ xs) (suc t) ty h = let r = split xs t ty h in (x ∷ r.0, r.1, ap (λ l. x ∷ l) r.2, ap suc r.3)

module _ {A : Type 0} (none : A) (make : (ℕ → A) → Ty → A) where
  -- later types are passed over
  skip : (zs ws : List Ty) (t : ℕ) → t < length ws → of_types none make (zs ++ ws) t ≡ of_types none make ws t
  skip [] ws t h = refl
  skip (z ∷ zs) ws t h = by (t == length (zs ++ ws)) refl ∙ skip zs ws t h
    where
      by : (b : Bool) → (t == length (zs ++ ws)) ≡ b
          → elim b as (λ _. A) [ true ↦ make (of_types none make (zs ++ ws)) z | false ↦ of_types none make (zs ++ ws) t ] ≡ of_types none make (zs ++ ws) t
      by true e = absurd (omega (arith, eqb-true t (length (zs ++ ws)) e, length-append zs ws))
      by false e = refl

  -- and the type itself is made from those before it
  here : (ty : Ty) (ws : List Ty) (t : ℕ) → t ≡ length ws → of_types none make (ty ∷ ws) t ≡ make (of_types none make ws) ty
  here ty ws t e = by (t == length ws) (eq-eqb t (length ws) e)
    where
      by : (b : Bool) → b ≡ true
          → elim b as (λ _. A) [ true ↦ make (of_types none make ws) ty | false ↦ of_types none make ws t ] ≡ make (of_types none make ws) ty
      by true e = refl
      by false e = absurd (true≢false (sym e))

  -- the types before this one, which are enough for what it names
  pub of_type-at : (types : Table) (t : ℕ) (ty : Ty) → slice_get types.types t ≡ Some ty
      → (rec : ℕ → A) × ((u : ℕ) → u < t → rec u ≡ of_type none make types u) × (of_type none make types t ≡ make rec ty)
  of_type-at types t ty h =
      let r = split types.types t ty h in
      let older = reverse r.0 in
      let latest : reverse types.types ≡ (reverse r.1 ++ (ty ∷ [])) ++ older = ap reverse r.2 ∙ reverse-append r.0 (ty ∷ r.1) ∙ ap (λ l. l ++ older) (reverse-append (ty ∷ []) r.1) in
      let count : length older ≡ t = length-reverse r.0 ∙ r.3 in
      let longer : (reverse r.1 ++ (ty ∷ [])) ++ older ≡ reverse r.1 ++ (ty ∷ older) = append_assoc (reverse r.1) (ty ∷ []) older in (
        of_types none make older,
        (λ u below. sym (ap (λ l. of_types none make l u) latest ∙ skip (reverse r.1 ++ (ty ∷ [])) older u (omega (arith, count)))),
        ap (λ l. of_types none make l t) (latest ∙ longer) ∙ skip (reverse r.1) (ty ∷ older) t (omega (arith, count)) ∙ here ty older t (sym count),
      )
