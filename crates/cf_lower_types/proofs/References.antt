-- What a name of a reference's type stands for.
use Rattle.std.proofs.Common.{◌≡◌, ℕ, Bool, true, false, if◌then◌else◌, List, [], ◌∷◌, map, Option, Some, None, slice_get, refl, sym, ap, subst, ◌∙◌}
use Rattle.cf_types.specs.declared.ty.Fun.{Fun}
use Rattle.cf_types.specs.declared.ty.Ty.{Ty}
use Rattle.cf_types.specs.declared.ty.Ty.TheVariants as ty
use Rattle.cf_core.specs.Types.{SourceType, void, integer, enumeration, class, pointer, reference, array, takes, gives, data_member, function_member, const, without_const}
use Rattle.cf_core.specs.Places.{is_reference}
use Rattle.cf_core.specs.FromTypes.{Tables, type_of, type_step, fun_type, taking}
use Rattle.cf_lower_layout.specs.Sorts.{sort_to}
use Rattle.cf_lower.specs.Kept.{referred}
use Rattle.cf_lower_types.specs.declared.scalar.Scalar.{Scalar}
use Rattle.cf_lower_types.specs.Bare.{bare, Refers, sort_in}
use Rattle.cf_lower_types.specs.Forms.{under_const, target_in}

-- what is no reference stands for itself
pub itself : (t : SourceType) → is_reference t ≡ false → referred t ≡ t
itself (reference t) e = cc
itself (const t) e = by (is_reference t) e
  where
    by : (b : Bool) → b ≡ false → (if b then referred t else const t) ≡ const t
    by true e = cc
    by false e = refl
itself void e = refl
itself (integer k) e = refl
itself (enumeration n) e = refl
itself (class c) e = refl
itself (pointer t) e = refl
itself (array t n) e = refl
itself (takes p t) e = refl
itself (gives t c) e = refl
itself (data_member c t) e = refl
itself (function_member c t) e = refl

-- under a const stands what stands there without it
pub within_const : (t u : SourceType) → is_reference t ≡ true → referred t ≡ u → referred (const t) ≡ u
within_const t u e p = by (is_reference t) e ∙ p
  where
    by : (b : Bool) → b ≡ true → (if b then referred t else const t) ≡ referred t
    by true e = refl
    by false e = cc

same : (a b : ℕ) → Some a ≡ Some b → a ≡ b
same a b e = cc

module _ (tables : Tables) (t : ℕ) where
  -- a const type refers to what the type under it refers to
  pub const_refers : (v : Ty) (u : ℕ) (o : Option ℕ) → type_of tables t ≡ type_step tables (type_of tables) v → under_const v ≡ Some u → Refers tables u o → Refers tables t o
  const_refers (ty.Const w) u None e k r = ap is_reference e ∙ ap (λ n. is_reference (type_of tables n)) (same w u k) ∙ r
  const_refers (ty.Const w) u (Some z) e k r =
      let at : type_of tables t ≡ const (type_of tables u) = e ∙ ap (λ n. const (type_of tables n)) (same w u k) in
      (ap is_reference at ∙ r.0, ap referred at ∙ within_const (type_of tables u) (type_of tables z) r.0 r.1)
  const_refers v u o e k r = cc

  other_form : (v : Ty) → type_of tables t ≡ type_step tables (type_of tables) v → under_const v ≡ None → Refers tables t (target_in v)
  other_form (ty.Ref u) e k = (ap is_reference e, ap referred e)
  other_form (ty.Const u) e k = cc
  other_form ty.Void e k = ap is_reference e
  other_form (ty.Int l) e k = ap is_reference e
  other_form (ty.Enum n) e k = ap is_reference e
  other_form (ty.Class c) e k = ap is_reference e
  other_form (ty.Ptr u) e k = ap is_reference e
  other_form (ty.Array u n) e k = ap is_reference e
  other_form (ty.Fun f) e k = ap is_reference e ∙ no_reference (slice_get tables.types.funs f)
    where
      no_reference : (o : Option Fun) → is_reference (fun_type (type_of tables) o) ≡ false
      no_reference None = refl
      no_reference (Some g) = by g.params
        where
          by : (ps : List ℕ) → is_reference (taking (map (type_of tables) ps) (gives (type_of tables g.result) g.is_const)) ≡ false
          by [] = refl
          by (p ∷ ps) = refl
  other_form (ty.MemData c u) e k = ap is_reference e
  other_form (ty.MemFun c f) e k = ap is_reference e

  pub other_refers : (v : Ty) (o : Option ℕ) → type_of tables t ≡ type_step tables (type_of tables) v → under_const v ≡ None → o ≡ target_in v → Refers tables t o
  other_refers v o e k is = subst (Refers tables t) (sym is) (other_form v e k)

  pub sort_refers : (o : Option ℕ) (u : ℕ) (s : Scalar) → Refers tables t o → o ≡ Some u → sort_in tables s ≡ sort_to (bare tables u)
      → sort_in tables s ≡ sort_to (without_const (referred (type_of tables t)))
  sort_refers o u s r k e =
      let found : Refers tables t (Some u) = subst (Refers tables t) k r in e ∙ sym (ap (λ w. sort_to (without_const w)) found.1)

  pub sort_itself : (o : Option ℕ) (s : Scalar) → Refers tables t o → o ≡ None → sort_in tables s ≡ sort_to (bare tables t)
      → sort_in tables s ≡ sort_to (without_const (referred (type_of tables t)))
  sort_itself o s r k e =
      let found : Refers tables t None = subst (Refers tables t) k r in
      e ∙ sym (ap (λ w. sort_to (without_const w)) (itself (type_of tables t) found))
