-- Types by what stands outermost in them.
use Rattle.std.proofs.Common.{◌≡◌, ℕ, zero, suc, ◌<◌, Bool, true, false, List, [], ◌∷◌, length, map, Option, Some, None, slice_get, refl, sym, ap, subst, ◌∙◌, arith}
use Rattle.cf_base.specs.declared.kind.Kind.{Kind}
use Rattle.cf_types.specs.declared.ty.Fun.{Fun}
use Rattle.cf_types.specs.declared.ty.Ty.{Ty}
use Rattle.cf_types.specs.declared.ty.Ty.TheVariants as ty
use Rattle.cf_types.specs.Table.{Names, NamesBelow}
use Rattle.cf_core.specs.Types.{SourceType, void, integer, enumeration, class, pointer, reference, array, takes, gives, data_member, function_member, const, without_const, type_eq, is_void}
use Rattle.cf_core.specs.FromTypes.{Tables, type_of, type_step, taking, fun_type}
use Rattle.cf_core.specs.Places.{is_reference}
use Rattle.cf_lower_kept.specs.Ready.{is_code}
use Rattle.cf_lower_layout.specs.Sorts.{Sort, sort_to}
use Rattle.cf_lower_types.specs.declared.form.Form.{Form}
use Rattle.cf_lower_types.specs.declared.form.Form.TheVariants as form
use Rattle.cf_lower_types.specs.declared.place.PlaceType.{PlaceType}
use Rattle.cf_lower_types.specs.declared.place.PlaceType.TheVariants as place
use Rattle.cf_lower_types.specs.Bare.{bare, form_type, type_in, Refers, is_code as is_code_sort}
use Rattle.cf_lowerable_types.specs.declared.types.Layer.{Layer}
use Rattle.cf_lowerable_types.specs.declared.types.Layer.TheVariants as layer
use Rattle.cf_lowerable_types.specs.Types.{layer_in, Told, IsLayer, IsBelow, is_of_kind}

-- ---- the layer of a type

function_told : (ps : List SourceType) (t : SourceType) (c : Bool) → Told (taking ps (gives t c)) true true
function_told [] t c = record { bytes = refl; once = refl; signature = refl; on_none = refl; no_const = refl }
function_told (p ∷ ps) t c =
    record { bytes = refl; once = refl; signature = (function_told ps t c).signature; on_none = refl; no_const = refl }

module _ (tables : Tables) (t : ℕ) where
  there : (f : ℕ) (o : Option Fun) → slice_get tables.types.funs f ≡ o → f < length tables.types.funs → Told (fun_type (type_of tables) o) true true
  there f (Some g) e lt = function_told (map (type_of tables) g.params) (type_of tables g.result) g.is_const
  there f None e lt = absurd (missing tables.types.funs f e lt)
    where
      missing : (fs : List Fun) (f : ℕ) → slice_get fs f ≡ None → f < length fs → ⊥
      missing [] f e lt = omega (arith, lt)
      missing (g ∷ gs) zero e lt = cc
      missing (g ∷ gs) (suc f) e lt = missing gs f e (omega (arith, lt))

  by_step : (v : Ty) → Names tables.types.funs t (length tables.types.funs) v → type_of tables t ≡ type_step tables (type_of tables) v → IsLayer tables t (layer_in v)
  by_step (ty.Const u) names e = e
  by_step (ty.Array u n) names e = e
  by_step (ty.Fun f) names e =
      subst (λ w. Told w true true) (sym e) (there f (slice_get tables.types.funs f) refl (names.fun_known 0 f (omega arith)))
  by_step (ty.Class c) names e = subst (λ w. Told w false false) (sym e) (record { bytes = refl; once = refl; signature = refl; on_none = refl; no_const = refl })
  by_step ty.Void names e = subst (λ w. Told w true false) (sym e) (record { bytes = refl; once = refl; signature = refl; on_none = refl; no_const = refl })
  by_step (ty.Int k) names e = subst (λ w. Told w true false) (sym e) (record { bytes = refl; once = refl; signature = refl; on_none = refl; no_const = refl })
  by_step (ty.Enum n) names e = subst (λ w. Told w true false) (sym e) (record { bytes = refl; once = refl; signature = refl; on_none = refl; no_const = refl })
  by_step (ty.Ptr u) names e = subst (λ w. Told w true false) (sym e) (record { bytes = refl; once = refl; signature = refl; on_none = refl; no_const = refl })
  by_step (ty.Ref u) names e = subst (λ w. Told w true false) (sym e) (record { bytes = refl; once = refl; signature = refl; on_none = refl; no_const = refl })
  by_step (ty.MemData c u) names e = subst (λ w. Told w true false) (sym e) (record { bytes = refl; once = refl; signature = refl; on_none = refl; no_const = refl })
  by_step (ty.MemFun c f) names e = subst (λ w. Told w true false) (sym e) (record { bytes = refl; once = refl; signature = refl; on_none = refl; no_const = refl })

  pub layer_is : (v : Ty) (l : Layer) → Names tables.types.funs t (length tables.types.funs) v → type_of tables t ≡ type_step tables (type_of tables) v → l ≡ layer_in v → IsLayer tables t l
  layer_is v l names e is = subst (IsLayer tables t) (sym is) (by_step v names e)

  below_step : (v : Ty) → NamesBelow t v → IsBelow t (layer_in v)
  below_step (ty.Const u) below = below
  below_step (ty.Array u n) below = below
  below_step v below = tt

  pub layer_below : (v : Ty) (l : Layer) → NamesBelow t v → l ≡ layer_in v → IsBelow t l
  layer_below v l below is = subst (IsBelow t) (sym is) (below_step v below)

  -- ---- what it tells

  module _ (l : Layer) (is : IsLayer tables t l) where
    pub const_by : (u : ℕ) → l ≡ layer.Const u → type_of tables t ≡ const (type_of tables u)
    const_by u e = subst (IsLayer tables t) e is

    pub array_by : (u n : ℕ) → l ≡ layer.Array u n → type_of tables t ≡ array (type_of tables u) n
    array_by u n e = subst (IsLayer tables t) e is

    pub function_by : l ≡ layer.Function → Told (type_of tables t) true true
    function_by e = subst (IsLayer tables t) e is

    pub class_by : l ≡ layer.Class → Told (type_of tables t) false false
    class_by e = subst (IsLayer tables t) e is

    pub other_by : l ≡ layer.Other → Told (type_of tables t) true false
    other_by e = subst (IsLayer tables t) e is

  -- ---- references

  pub reference_some : (o : Option ℕ) (u : ℕ) → Refers tables t o → o ≡ Some u → true ≡ is_reference (type_of tables t)
  reference_some o u refers e = let found : Refers tables t (Some u) = subst (Refers tables t) e refers in sym found.0

  pub reference_none : (o : Option ℕ) → Refers tables t o → o ≡ None → false ≡ is_reference (type_of tables t)
  reference_none o refers e = let found : Refers tables t None = subst (Refers tables t) e refers in sym found

-- ---- functions

code_bare : (t : SourceType) → is_code t ≡ is_code_sort (sort_to (without_const t))
code_bare void = refl
code_bare (integer k) = refl
code_bare (enumeration e) = refl
code_bare (class c) = refl
code_bare (pointer t) = refl
code_bare (reference t) = refl
code_bare (array t n) = refl
code_bare (takes p t) = refl
code_bare (gives t c) = refl
code_bare (data_member c t) = refl
code_bare (function_member c t) = refl
code_bare (const t) = code_bare t

pub code_by_sort : (t : SourceType) (s : Sort) (b : Bool) → b ≡ is_code_sort s → s ≡ sort_to (without_const t) → b ≡ is_code t
code_by_sort t s b e is = e ∙ ap is_code_sort is ∙ sym (code_bare t)

-- ---- void

void_same : (t : SourceType) → type_eq void (without_const t) ≡ is_void (without_const t)
void_same void = refl
void_same (integer k) = refl
void_same (enumeration e) = refl
void_same (class c) = refl
void_same (pointer t) = refl
void_same (reference t) = refl
void_same (array t n) = refl
void_same (takes p t) = refl
void_same (gives t c) = refl
void_same (data_member c t) = refl
void_same (function_member c t) = refl
void_same (const t) = void_same t

pub void_place : (tables : Tables) (p : PlaceType) (b : Bool) → b ≡ type_eq void (type_in tables p) → b ≡ is_void (type_in tables p)
void_place tables (place.Of t) b e = e ∙ void_same (type_of tables t)
void_place tables place.Void b e = e
void_place tables place.Character b e = e
void_place tables (place.Characters n) b e = e

pub without_void : (t : SourceType) → is_void (without_const t) ≡ is_void t
without_void void = refl
without_void (integer k) = refl
without_void (enumeration e) = refl
without_void (class c) = refl
without_void (pointer t) = refl
without_void (reference t) = refl
without_void (array t n) = refl
without_void (takes p t) = refl
without_void (gives t c) = refl
without_void (data_member c t) = refl
without_void (function_member c t) = refl
without_void (const t) = without_void t

pub void_bare : (t : SourceType) (b : Bool) → b ≡ is_void (without_const t) → b ≡ is_void t
void_bare t b e = e ∙ without_void t

-- ---- integers

module _ (tables : Tables) where
  no_integer : (k : Kind) (o : Option Fun) → false ≡ type_eq (integer k) (without_const (fun_type (type_of tables) o))
  no_integer k None = refl
  no_integer k (Some f) = by f.params
    where
      by : (ps : List ℕ) → false ≡ type_eq (integer k) (without_const (taking (map (type_of tables) ps) (gives (type_of tables f.result) f.is_const)))
      by [] = refl
      by (p ∷ ps) = refl

  by_form : (k : Kind) (x : Form) → is_of_kind k x ≡ type_eq (integer k) (form_type tables x)
  by_form k form.Void = refl
  by_form k (form.Integer l) = refl
  by_form k (form.Enumeration n) = refl
  by_form k (form.Class c) = refl
  by_form k (form.Pointer u) = refl
  by_form k (form.Reference u) = refl
  by_form k (form.Array u n) = refl
  by_form k (form.Function f) = no_integer k (slice_get tables.types.funs f)
  by_form k (form.DataMember c u) = refl
  by_form k (form.FunctionMember c f) = refl

  pub integer_by_form : (k : Kind) (t : ℕ) (x : Form) (b : Bool) → b ≡ is_of_kind k x → bare tables t ≡ form_type tables x → b ≡ type_eq (integer k) (bare tables t)
  integer_by_form k t x b e is = e ∙ by_form k x ∙ sym (ap (type_eq (integer k)) is)
