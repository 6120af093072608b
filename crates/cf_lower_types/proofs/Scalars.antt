-- What the forms of types are as scalars.
use Rattle.std.proofs.Common.{◌≡◌, ℕ, zero, suc, ◌<◌, true, false, List, [], ◌∷◌, length, map, Option, Some, None, slice_get, refl, sym, ap, ◌∙◌, arith}
use Rattle.cf_types.specs.declared.ty.Fun.{Fun}
use Rattle.cf_core.specs.Types.{SourceType, void, integer, enumeration, class, pointer, reference, array, takes, gives, data_member, function_member, const, without_const, element}
use Rattle.cf_core.specs.Places.{is_scalar}
use Rattle.cf_core.specs.FromTypes.{Tables, type_of, fun_type, taking}
use Rattle.cf_lower_layout.specs.Sorts.{sort_to, sort_of, scalar_sort, address, code}
use Rattle.cf_lower_types.specs.declared.form.Form.{Form}
use Rattle.cf_lower_types.specs.declared.form.Form.TheVariants as form
use Rattle.cf_lower_types.specs.declared.place.PlaceType.TheVariants as place
use Rattle.cf_lower_types.specs.declared.scalar.Scalar.TheVariants as scalar
use Rattle.cf_lower_types.specs.Bare.{bare, form_type, Named, sort_in, type_in}
use Rattle.cf_lower_types.specs.Forms.{is_function_form, is_scalar_form, elements_in}

-- ---- const

pub without_const_twice : (t : SourceType) → without_const (without_const t) ≡ without_const t
without_const_twice void = refl
without_const_twice (integer k) = refl
without_const_twice (enumeration e) = refl
without_const_twice (class c) = refl
without_const_twice (pointer t) = ap pointer (without_const_twice t)
without_const_twice (reference t) = ap reference (without_const_twice t)
without_const_twice (array t n) = ap (λ u. array u n) (without_const_twice t)
without_const_twice (takes p t) = ap (λ u. takes u (without_const (without_const t))) (without_const_twice p) ∙ ap (takes (without_const p)) (without_const_twice t)
without_const_twice (gives t c) = ap (λ u. gives u false) (without_const_twice t)
without_const_twice (data_member c t) = ap (data_member c) (without_const_twice t)
without_const_twice (function_member c t) = ap (function_member c) (without_const_twice t)
without_const_twice (const t) = without_const_twice t

pub scalar_by_bare : (t : SourceType) → is_scalar (without_const t) ≡ is_scalar t
scalar_by_bare void = refl
scalar_by_bare (integer k) = refl
scalar_by_bare (enumeration e) = refl
scalar_by_bare (class c) = refl
scalar_by_bare (pointer t) = refl
scalar_by_bare (reference t) = refl
scalar_by_bare (array t n) = refl
scalar_by_bare (takes p t) = refl
scalar_by_bare (gives t c) = refl
scalar_by_bare (data_member c t) = refl
scalar_by_bare (function_member c t) = refl
scalar_by_bare (const t) = scalar_by_bare t

-- what a bare type is as a scalar
pub sort_by_bare : (tables : Tables) (t : ℕ) → sort_of (bare tables t) ≡ sort_of (type_of tables t)
sort_by_bare tables t = ap scalar_sort (without_const_twice (type_of tables t))

-- ---- functions

function_none : (rec : ℕ → SourceType) (o : Option Fun) → scalar_sort (without_const (fun_type rec o)) ≡ None
function_none rec None = refl
function_none rec (Some f) = by f.params
  where
    by : (ps : List ℕ) → scalar_sort (without_const (taking (map rec ps) (gives (rec f.result) f.is_const))) ≡ None
    by [] = refl
    by (p ∷ ps) = refl

pub function_is_no_scalar : (tables : Tables) (f : ℕ) → scalar_sort (form_type tables (form.Function f)) ≡ None
function_is_no_scalar tables f = function_none (type_of tables) (slice_get tables.types.funs f)

not_scalar : (rec : ℕ → SourceType) (o : Option Fun) → is_scalar (without_const (fun_type rec o)) ≡ false
not_scalar rec None = refl
not_scalar rec (Some f) = by f.params
  where
    by : (ps : List ℕ) → is_scalar (without_const (taking (map rec ps) (gives (rec f.result) f.is_const))) ≡ false
    by [] = refl
    by (p ∷ ps) = refl

function_code : (rec : ℕ → SourceType) (o : Option Fun) (f : Fun) → o ≡ Some f → sort_to (without_const (fun_type rec o)) ≡ code (without_const (fun_type rec o))
function_code rec None f e = cc
function_code rec (Some g) f e = by g.params
  where
    by : (ps : List ℕ) → sort_to (without_const (taking (map rec ps) (gives (rec g.result) g.is_const))) ≡ code (without_const (taking (map rec ps) (gives (rec g.result) g.is_const)))
    by [] = refl
    by (p ∷ ps) = refl

same_pair : (a b : ℕ × ℕ) → Some a ≡ Some b → a ≡ b
same_pair a b e = cc

there : (fs : List Fun) (f : ℕ) → f < length fs → (g : Fun) × (slice_get fs f ≡ Some g)
there [] f lt = absurd (omega arith)
there (g ∷ fs) zero lt = (g, refl)
there (g ∷ fs) (suc f) lt = there fs f (omega arith)

-- ---- by the form

module _ (tables : Tables) where
  pub code_at : (t : ℕ) (x : Form) → bare tables t ≡ form_type tables x → Named tables t x → is_function_form x ≡ true → sort_in tables (scalar.Code t) ≡ sort_to (bare tables t)
  code_at t (form.Function f) e named k =
      let r = there tables.types.funs f named.within in
      ap code e ∙ sym (function_code (type_of tables) (slice_get tables.types.funs f) r.0 r.1) ∙ sym (ap sort_to e)
  code_at t x e named k = cc

  address_form : (x : Form) → is_function_form x ≡ false → sort_to (form_type tables x) ≡ address (form_type tables x)
  address_form form.Void k = refl
  address_form (form.Integer l) k = refl
  address_form (form.Enumeration e) k = refl
  address_form (form.Class c) k = refl
  address_form (form.Pointer t) k = refl
  address_form (form.Reference t) k = refl
  address_form (form.Array t n) k = refl
  address_form (form.Function f) k = cc
  address_form (form.DataMember c t) k = refl
  address_form (form.FunctionMember c f) k = refl

  pub address_at : (t : ℕ) (x : Form) → bare tables t ≡ form_type tables x → is_function_form x ≡ false → sort_in tables (scalar.Address (place.Of t)) ≡ sort_to (bare tables t)
  address_at t x e k = ap address e ∙ sym (address_form x k) ∙ sym (ap sort_to e)

  pub sort_at : (t : ℕ) (x : Form) → bare tables t ≡ form_type tables x → scalar_sort (form_type tables x) ≡ sort_of (type_of tables t)
  sort_at t x e = sym (ap scalar_sort e)

  scalar_form : (x : Form) → is_scalar_form x ≡ is_scalar (form_type tables x)
  scalar_form form.Void = refl
  scalar_form (form.Integer k) = refl
  scalar_form (form.Enumeration e) = refl
  scalar_form (form.Class c) = refl
  scalar_form (form.Pointer t) = refl
  scalar_form (form.Reference t) = refl
  scalar_form (form.Array t n) = refl
  scalar_form (form.Function f) = sym (not_scalar (type_of tables) (slice_get tables.types.funs f))
  scalar_form (form.DataMember c t) = refl
  scalar_form (form.FunctionMember c f) = refl

  pub scalar_at : (t : ℕ) (x : Form) → bare tables t ≡ form_type tables x → is_scalar_form x ≡ is_scalar (type_of tables t)
  scalar_at t x e = scalar_form x ∙ sym (sym (scalar_by_bare (type_of tables t)) ∙ ap is_scalar e)

  -- elements

  element_function : (o : Option Fun) → without_const (fun_type (type_of tables) o) ≡ element (without_const (fun_type (type_of tables) o))
  element_function None = refl
  element_function (Some f) = by f.params
    where
      by : (ps : List ℕ) → without_const (taking (map (type_of tables) ps) (gives (type_of tables f.result) f.is_const))
          ≡ element (without_const (taking (map (type_of tables) ps) (gives (type_of tables f.result) f.is_const)))
      by [] = refl
      by (p ∷ ps) = refl

  element_form : (x : Form) → elements_in x ≡ None → form_type tables x ≡ element (form_type tables x)
  element_form form.Void k = refl
  element_form (form.Integer l) k = refl
  element_form (form.Enumeration e) k = refl
  element_form (form.Class c) k = refl
  element_form (form.Pointer t) k = refl
  element_form (form.Reference t) k = refl
  element_form (form.Array t n) k = cc
  element_form (form.Function f) k = element_function (slice_get tables.types.funs f)
  element_form (form.DataMember c t) k = refl
  element_form (form.FunctionMember c f) k = refl

  pub element_none : (t : ℕ) (x : Form) → bare tables t ≡ form_type tables x → elements_in x ≡ None → type_in tables (place.Of t) ≡ element (type_in tables (place.Of t))
  element_none t x e k = e ∙ element_form x k ∙ sym (ap element e)

  pub element_some : (t : ℕ) (x : Form) (u n : ℕ) → bare tables t ≡ form_type tables x → elements_in x ≡ Some (u, n) → type_in tables (place.Of u) ≡ element (type_in tables (place.Of t))
  element_some t (form.Array v m) u n e k =
      let p : v ≡ u = ap (λ (x : ℕ × ℕ). x.0) (same_pair (v, m) (u, n) k) in ap (bare tables) (sym p) ∙ sym (ap element e)
  element_some t x u n e k = cc
