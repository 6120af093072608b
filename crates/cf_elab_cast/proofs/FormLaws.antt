-- What a cast does, by the form of it, and that the number stays one of the type.
use Rattle.std.proofs.Common.{◌≡◌, ℕ, ◌==◌, Bool, true, false, ◌&&◌, if◌then◌else◌, Option, None, Some, ℤ, pos, IsTrue, slice_get, unwrap_or, refl, sym, ap, subst, ◌∙◌, true≢false}
use Rattle.cf_base.specs.declared.kind.Kind.{Kind}
use Rattle.cf_base.specs.declared.kind.Kind.TheVariants as kind
use Rattle.cf_base.specs.Integers.{fits}
use Rattle.cf_types.specs.declared.ty.Ty.{Ty}
use Rattle.cf_types.specs.declared.ty.Ty.TheVariants as ty
use Rattle.cf_types.specs.Table.{Table}
use Rattle.cf_convert.specs.Constness.{type_at, bare}
use Rattle.cf_elab.specs.Answer.{Answer, Made, Refused, gives}
use Rattle.cf_elab.specs.Cast as row
use Rattle.cf_elab.specs.Env.{Env}
use Rattle.cf_elab.specs.Fit.{null_of}
use Rattle.cf_elab.specs.Members.{class_number}
use Rattle.cf_elab.specs.Operand.{Value, Sort, sort_of, ty_sort, pointer_sort, is_zero, integral, enumeral, object_pointer, void_pointer, function_pointer, data_pointer, method_pointer, void_sort}
use Rattle.cf_elab_env.specs.Holds.{Known, IsType, FitsIn, fits_sort, HasNoClass, without_class}
use Rattle.cf_elab_env.proofs.Growth.{grown_laws}
use Rattle.cf_elab_env.proofs.Sorts.{no_class_at}
use Rattle.cf_elab_fit.specs.Shut as fit
use Rattle.cf_elab_cast.specs.declared.form.Form.{Form}
use Rattle.cf_elab_cast.specs.declared.form.Form.TheVariants as form
use Rattle.cf_elab_cast.specs.Forms.{form_of, plain_form, form_at, zero_form, zero_form_at, Allows, IsEnumeral}
use Rattle.cf_elab_cast.specs.Shut as shut

-- ---- no type is a class

no_class_ty : (types : Table) (n : ℕ) → HasNoClass types → IsTrue (without_class (type_at types n))
no_class_ty types n all = by (slice_get types.types n) refl
  where
    by : (o : Option Ty) → slice_get types.types n ≡ o → IsTrue (without_class (unwrap_or o ty.Void))
    by None e = refl
    by (Some v) e = no_class_at types n v all e

no_number_pointer : (t : ℕ) (v : Ty) → class_number (pointer_sort t v) ≡ None
no_number_pointer t ty.Void = refl
no_number_pointer t (ty.Fun f) = refl
no_number_pointer t other = refl

no_number : (types : Table) (v : Ty) → IsTrue (without_class v) → class_number (ty_sort types v) ≡ None
no_number types (ty.Class c) h = absurd (true≢false (sym h))
no_number types (ty.Ptr t) h = no_number_pointer t (type_at types (bare types t))
no_number types v h = refl

pub no_class_number : (types : Table) (t : ℕ) → HasNoClass types → class_number (sort_of types t) ≡ None
no_class_number types t all = no_number types (type_at types (bare types t)) (no_class_ty types (bare types t) all)

-- ---- the form of a cast of a plain value

module _ (at t : ℕ) (x : Value) (env : Env) (all : HasNoClass env.types) where
  abbrev by_sorts : Sort → Sort → Answer Value
  by_sorts s r = row.cast_scalar at t x s r env

  pointers : (u v : ℕ) → by_sorts (object_pointer u) (object_pointer v) ≡ row.retyped at t x env
  pointers u v = ap (λ c. row.cast_classes at t x c (class_number (sort_of env.types u)) env) (no_class_number env.types v all)

  enumerals : (b : Bool) → (if b then gives (record x { type = t }) else gives (row.as_enumeration at t x)) env ≡ shut.cast_by at t (if b then form.Same else form.Enumeration) x env
  unfolding shut.cast_by
  enumerals true = refl
  enumerals false = refl

  by_form : (s r : Sort) → by_sorts s r ≡ shut.cast_by at t (form_of s r) x env
  unfolding shut.cast_by shut.retyped
  by_form (object_pointer u) (object_pointer v) = pointers u v
  by_form (enumeral a) (enumeral b) = enumerals (a == b)
  by_form (integral k) (integral l) = refl
  by_form void_pointer void_pointer = refl
  by_form (function_pointer u) (function_pointer v) = refl
  by_form (data_pointer c u) (data_pointer d v) = refl
  by_form (method_pointer c u) (method_pointer d v) = refl
  by_form s r = refl

  null_or : (s r : Sort) (b : Bool) → (if b then gives (null_of t x) else row.cast_scalar at t x s r) env ≡ shut.cast_by at t (if b then form.Null else form_of s r) x env
  unfolding shut.cast_by
  null_or s r true = refl
  null_or s r false = by_form s r

  pub plain_cast : (s r : Sort) → (if is_zero x.number && row.takes_null s then gives (null_of t x) else row.cast_scalar at t x s r) env ≡ shut.cast_by at t (plain_form s r x.number) x env
  plain_cast s r = null_or s r (is_zero x.number && row.takes_null s)

-- ---- the number stays one of the type

module _ (types : Table) (t : ℕ) (x : Value) where
  keeps : (s r : Sort) → s ≡ sort_of types t → r ≡ sort_of types x.type → ((z : ℤ) → IsTrue (fits_sort r z) → IsTrue (fits_sort s z)) → FitsIn types x.type x.number → FitsIn types t x.number
  keeps s r e f up = by x.number
    where
      by : (z : Option ℤ) → FitsIn types x.type z → FitsIn types t z
      by None h = tt
      by (Some z) h =
          let P : Sort → Type 0 = λ s. IsTrue (fits_sort s z) in
          let in_r : P r = subst P (sym f) h in
          subst P e (up z in_r)

  enumerals_allow : (b : Bool) (a c : ℕ) → enumeral a ≡ sort_of types t → enumeral c ≡ sort_of types x.type → FitsIn types x.type x.number
      → Allows types t x (if b then form.Same else form.Enumeration)
  enumerals_allow true a c e f h = keeps (enumeral a) (enumeral c) e f (λ z k. k) h
  enumerals_allow false a c e f h = subst IsEnumeral e tt

  allows : (s r : Sort) → s ≡ sort_of types t → r ≡ sort_of types x.type → FitsIn types x.type x.number → Allows types t x (form_of s r)
  allows (enumeral a) (integral k) e f h = subst IsEnumeral e tt
  allows (enumeral a) (enumeral b) e f h = enumerals_allow (a == b) a b e f h
  allows void_pointer void_pointer e f h = keeps void_pointer void_pointer e f (λ z k. k) h
  allows void_pointer (object_pointer v) e f h = tt
  allows (integral k) (integral l) e f h = tt
  allows (object_pointer u) (object_pointer v) e f h = tt
  allows (function_pointer u) (function_pointer v) e f h = tt
  allows (data_pointer c u) (data_pointer d v) e f h = tt
  allows (method_pointer c u) (method_pointer d v) e f h = tt
  allows s r e f h = tt

  pub form_allowed : (f : Form) → Known types x → f ≡ form_at types t x.type x.number → Allows types t x f
  unfolding form_at
  form_allowed f known is = subst (Allows types t x) (sym is) (by (is_zero x.number && row.takes_null (sort_of types t)))
    where
      by : (b : Bool) → Allows types t x (if b then form.Null else form_of (sort_of types t) (sort_of types x.type))
      by true = tt
      by false = allows (sort_of types t) (sort_of types x.type) refl refl known.number

  zero_allows : (s : Sort) → s ≡ sort_of types t → x.number ≡ Some (pos 0) → Allows types t x (zero_form s)
  zero_allows (integral k) e z =
      let P : Sort → Type 0 = λ s. IsTrue (fits_sort s (pos 0)) in
      let fitting : FitsIn types t (Some (pos 0)) = subst P e (zero_fits k) in
      subst (FitsIn types t) (sym z) fitting
    where
      zero_fits : (k : Kind) → IsTrue (fits k (pos 0))
      zero_fits kind.Char = refl
      zero_fits kind.SChar = refl
      zero_fits kind.UChar = refl
      zero_fits kind.Short = refl
      zero_fits kind.UShort = refl
      zero_fits kind.Int = refl
      zero_fits kind.UInt = refl
      zero_fits kind.Long = refl
      zero_fits kind.ULong = refl
  zero_allows (enumeral a) e z = subst IsEnumeral e tt
  zero_allows void_sort e z = tt
  zero_allows s e z = tt

  pub zero_allowed : (f : Form) → f ≡ zero_form_at types t → x.number ≡ Some (pos 0) → Allows types t x f
  unfolding zero_form_at
  zero_allowed f is z = subst (Allows types t x) (sym is) (zero_allows (sort_of types t) refl z)

-- ---- by the form

module _ (at t : ℕ) (f : Form) (x : Value) (env : Env) where
  as_form : (g : Form) → f ≡ g → shut.cast_by at t f x env ≡ shut.cast_by at t g x env
  as_form g is = ap (λ f. shut.cast_by at t f x env) is

  pub form_fit : f ≡ form.Fit → shut.cast_by at t f x env ≡ fit.fit at x t env
  unfolding shut.cast_by fit.fit
  form_fit is = as_form form.Fit is

  pub form_enumeration : (v : Value) → f ≡ form.Enumeration → v ≡ row.as_enumeration at t x → shut.cast_by at t f x env ≡ Made v env
  unfolding shut.cast_by
  form_enumeration v is e = as_form form.Enumeration is ∙ ap (λ v. Made v env) (sym e)

  pub form_same : (v : Value) → f ≡ form.Same → v ≡ record x { type = t } → shut.cast_by at t f x env ≡ Made v env
  unfolding shut.cast_by
  form_same v is e = as_form form.Same is ∙ ap (λ v. Made v env) (sym e)

  pub form_const : f ≡ form.Const → shut.cast_by at t f x env ≡ shut.retyped at t x env
  unfolding shut.cast_by
  form_const is = as_form form.Const is

  pub form_from_void : (u : ℕ) (v : Value) → f ≡ form.FromVoid u → v ≡ row.from_void at t u x → shut.cast_by at t f x env ≡ Made v env
  unfolding shut.cast_by
  form_from_void u v is e = as_form (form.FromVoid u) is ∙ ap (λ v. Made v env) (sym e)

  pub form_to_void : (v : Value) → f ≡ form.ToVoid → v ≡ row.to_void at t x → shut.cast_by at t f x env ≡ Made v env
  unfolding shut.cast_by
  form_to_void v is e = as_form form.ToVoid is ∙ ap (λ v. Made v env) (sym e)

  pub form_null : (v : Value) → f ≡ form.Null → v ≡ null_of t x → shut.cast_by at t f x env ≡ Made v env
  unfolding shut.cast_by
  form_null v is e = as_form form.Null is ∙ ap (λ v. Made v env) (sym e)

  pub form_nothing : f ≡ form.Nothing → shut.cast_by at t f x env ≡ shut.to_nothing at t x env
  unfolding shut.cast_by
  form_nothing is = as_form form.Nothing is

  pub form_none : f ≡ form.None → shut.cast_by at t f x env ≡ Refused 17 at
  unfolding shut.cast_by
  form_none is = as_form form.None is

pub known_same : (types : Table) (v x : Value) (t : ℕ) → IsType types t → FitsIn types t x.number → v ≡ record x { type = t } → Known types v
known_same types v x t typed fits is =
    let known : Known types (record x { type = t }) = record { typed = typed; number = fits } in
    subst (Known types) (sym is) known

pub allowed_enumeral : (types : Table) (t : ℕ) (x : Value) (f : Form) → f ≡ form.Enumeration → Allows types t x f → IsEnumeral (sort_of types t)
allowed_enumeral types t x f is h = subst (Allows types t x) is h

pub allowed_number : (types : Table) (t : ℕ) (x : Value) (f : Form) → f ≡ form.Same → Allows types t x f → FitsIn types t x.number
allowed_number types t x f is h = subst (Allows types t x) is h

pub ruleset form_laws = (form_fit, form_enumeration, form_same, form_const, form_from_void, form_to_void, form_null, form_nothing, form_none, known_same, allowed_enumeral, allowed_number, grown_laws)
