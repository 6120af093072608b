-- What a place is, by where it lies in its object.
use Rattle.std.proofs.Common.{◌≡◌, ◌∙◌, ℕ, Bool, true, false, true≢false, [], slice_get, Option, Some, None, refl, ap, sym}
use Rattle.cf_base.specs.declared.kind.Kind.TheVariants.{Char}
use Rattle.cf_core.specs.FromTypes.{Tables}
use Rattle.cf_core.specs.Types.{SourceType, void, integer, enumeration, class, pointer, reference, array, takes, gives, data_member, function_member, const, plain, is_array, is_class}
use Rattle.cf_core.specs.Objects.{character_kind, element_count}
use Rattle.cf_core.specs.Places.{Route, type_at, is_inside, is_scalar, is_reference, is_const}
use Rattle.cf_core.specs.Pointers.{element_of, bound_of}
use Rattle.cf_core.specs.Store.{Value, Object, zero_of, is_constant_place, automatic}
use Rattle.cf_run_tree.specs.declared.shape.Form.{Form}
use Rattle.cf_run_tree.specs.declared.shape.Form.TheVariants as form
use Rattle.cf_run_tree.specs.declared.shape.Shape.{Shape}
use Rattle.cf_run_tree.specs.declared.shape.Bounds.{Bounds}
use Rattle.cf_run_tree.specs.declared.shape.Bounds.TheVariants as bounds
use Rattle.cf_run_tree.specs.Tree.{list_of, arrays, shape_type, form_type, kept}
use Rattle.cf_core_place.specs.declared.part.Part.{Part}
use Rattle.cf_core_place.specs.declared.part.Part.TheVariants as part
use Rattle.cf_core_place.specs.Routes.{route_of, row_route, depth}
use Rattle.cf_core_place.proofs.PartLaws.{single, type_in, type-of, none_deeper, constant-of, permanent-constant, literal-constant, usable, dead, plain_object}
use Rattle.cf_core_objects.specs.declared.object.Storage.{Storage}
use Rattle.cf_core_objects.specs.declared.object.Storage.TheVariants as storage
use Rattle.cf_core_objects.specs.declared.site.Site.{Site}
use Rattle.cf_core_objects.specs.declared.site.Sort.{Sort}
use Rattle.cf_core_objects.specs.declared.site.Sort.TheVariants as sort
use Rattle.cf_core_objects.specs.Site.{sort_of, scalar_sort, reference_sort, array_sort, zero_sort, sort_with, form_kind, constant_with, IsSite, HasItems, HasElements, HasNone}
use Rattle.cf_core_objects.specs.Store.{stored}

-- What the meaning asks of a type, its sort tells.
pub scalar-as : (t : SourceType) → is_scalar t ≡ scalar_sort (sort_of t)
scalar-as void = refl
scalar-as (integer k) = refl
scalar-as (enumeration e) = refl
scalar-as (class c) = refl
scalar-as (pointer t) = refl
scalar-as (reference t) = refl
scalar-as (array t n) = refl
scalar-as (takes p t) = refl
scalar-as (gives t c) = refl
scalar-as (data_member c t) = refl
scalar-as (function_member c t) = refl
scalar-as (const t) = scalar-as t

pub reference-as : (t : SourceType) → is_reference t ≡ reference_sort (sort_of t)
reference-as void = refl
reference-as (integer k) = refl
reference-as (enumeration e) = refl
reference-as (class c) = refl
reference-as (pointer t) = refl
reference-as (reference t) = refl
reference-as (array t n) = refl
reference-as (takes p t) = refl
reference-as (gives t c) = refl
reference-as (data_member c t) = refl
reference-as (function_member c t) = refl
reference-as (const t) = reference-as t

pub array-as : (t : SourceType) → is_array t ≡ array_sort (sort_of t)
array-as void = refl
array-as (integer k) = refl
array-as (enumeration e) = refl
array-as (class c) = refl
array-as (pointer t) = refl
array-as (reference t) = refl
array-as (array t n) = refl
array-as (takes p t) = refl
array-as (gives t c) = refl
array-as (data_member c t) = refl
array-as (function_member c t) = refl
array-as (const t) = array-as t

pub zero-as : (t : SourceType) → zero_of t ≡ zero_sort (sort_of t)
zero-as void = refl
zero-as (integer k) = refl
zero-as (enumeration e) = refl
zero-as (class c) = refl
zero-as (pointer t) = refl
zero-as (reference t) = refl
zero-as (array t n) = refl
zero-as (takes p t) = refl
zero-as (gives t c) = refl
zero-as (data_member c t) = refl
zero-as (function_member c t) = refl
zero-as (const t) = zero-as t

-- how many elements an array has
pub count-as : (t : SourceType) (n : ℕ) → sort_of t ≡ sort.Array n → element_count [] t ≡ n
count-as (array t m) n h = ap (λ (s : Sort). elim s [ sort.Void ↦ m | sort.Number ↦ m | sort.Pointer ↦ m | sort.Reference ↦ m | sort.Array k ↦ k ]) h
count-as (const t) n h = count-as t n h
count-as void n h = absurd (cc)
count-as (integer k) n h = absurd (cc)
count-as (enumeration e) n h = absurd (cc)
count-as (class c) n h = absurd (cc)
count-as (pointer t) n h = absurd (cc)
count-as (reference t) n h = absurd (cc)
count-as (takes p t) n h = absurd (cc)
count-as (gives t c) n h = absurd (cc)
count-as (data_member c t) n h = absurd (cc)
count-as (function_member c t) n h = absurd (cc)

-- Of what is a scalar but for its bounds.
sort-form : (T : Tables) (b : Bool) (f : Form) → sort_of (kept b (form_type T f)) ≡ sort_with f None
sort-form T true form.Void = refl
sort-form T false form.Void = refl
sort-form T true (form.Integer k) = refl
sort-form T false (form.Integer k) = refl
sort-form T true (form.Enumeration e) = refl
sort-form T false (form.Enumeration e) = refl
sort-form T true (form.Pointer t) = refl
sort-form T false (form.Pointer t) = refl
sort-form T true (form.Reference t) = refl
sort-form T false (form.Reference t) = refl

class-form : (T : Tables) (b : Bool) (f : Form) → is_class (kept b (form_type T f)) ≡ false
class-form T true form.Void = refl
class-form T false form.Void = refl
class-form T true (form.Integer k) = refl
class-form T false (form.Integer k) = refl
class-form T true (form.Enumeration e) = refl
class-form T false (form.Enumeration e) = refl
class-form T true (form.Pointer t) = refl
class-form T false (form.Pointer t) = refl
class-form T true (form.Reference t) = refl
class-form T false (form.Reference t) = refl

const-form : (T : Tables) (b : Bool) (f : Form) → is_const (kept b (form_type T f)) ≡ b
const-form T true f = refl
const-form T false form.Void = refl
const-form T false (form.Integer k) = refl
const-form T false (form.Enumeration e) = refl
const-form T false (form.Pointer t) = refl
const-form T false (form.Reference t) = refl

sort-plain : (t : SourceType) → sort_of (plain t) ≡ sort_of t
sort-plain (const t) = refl
sort-plain void = refl
sort-plain (integer k) = refl
sort-plain (enumeration e) = refl
sort-plain (class c) = refl
sort-plain (pointer t) = refl
sort-plain (reference t) = refl
sort-plain (array t n) = refl
sort-plain (takes p t) = refl
sort-plain (gives t c) = refl
sort-plain (data_member c t) = refl
sort-plain (function_member c t) = refl

class-plain : (t : SourceType) → is_class (plain t) ≡ is_class t
class-plain (const t) = refl
class-plain void = refl
class-plain (integer k) = refl
class-plain (enumeration e) = refl
class-plain (class c) = refl
class-plain (pointer t) = refl
class-plain (reference t) = refl
class-plain (array t n) = refl
class-plain (takes p t) = refl
class-plain (gives t c) = refl
class-plain (data_member c t) = refl
class-plain (function_member c t) = refl

sort-in : (b : Bounds) (q : Part) (t : SourceType) (f : Form) → sort_of t ≡ sort_with f None → sort_of (type_in b q t) ≡ sort_with f (slice_get (list_of b) (depth q))
sort-in bounds.None part.Whole t f h = h
sort-in (bounds.One n) part.Whole t f h = refl
sort-in (bounds.Two n m) part.Whole t f h = refl
sort-in bounds.None part.Past t f h = h
sort-in (bounds.One n) part.Past t f h = refl
sort-in (bounds.Two n m) part.Past t f h = refl
sort-in bounds.None (part.Item i) t f h = sort-plain t ∙ h
sort-in (bounds.One n) (part.Item i) t f h = h
sort-in (bounds.Two n m) (part.Item i) t f h = refl
sort-in bounds.None (part.Inner i j) t f h = sort-plain t ∙ h
sort-in (bounds.One n) (part.Inner i j) t f h = sort-plain t ∙ h
sort-in (bounds.Two n m) (part.Inner i j) t f h = h

class-in : (b : Bounds) (q : Part) (t : SourceType) → is_class t ≡ false → is_class (type_in b q t) ≡ false
class-in bounds.None part.Whole t h = h
class-in (bounds.One n) part.Whole t h = refl
class-in (bounds.Two n m) part.Whole t h = refl
class-in bounds.None part.Past t h = h
class-in (bounds.One n) part.Past t h = refl
class-in (bounds.Two n m) part.Past t h = refl
class-in bounds.None (part.Item i) t h = class-plain t ∙ h
class-in (bounds.One n) (part.Item i) t h = h
class-in (bounds.Two n m) (part.Item i) t h = refl
class-in bounds.None (part.Inner i j) t h = class-plain t ∙ h
class-in (bounds.One n) (part.Inner i j) t h = class-plain t ∙ h
class-in (bounds.Two n m) (part.Inner i j) t h = h

const-in : (t : SourceType) (b : Bool) (count : Option ℕ) → is_const t ≡ b → elim count [ None ↦ is_const t | Some n ↦ false ] ≡ constant_with storage.Automatic b count
const-in t b None h = h
const-in t b (Some n) h = refl

stored-const : (t : SourceType) (held : Route → Option Value) (st : Storage) (is_gone : Bool) (π : Route) (b : Bool) (count : Option ℕ)
    → is_constant_place [] (plain_object t held automatic is_gone) π ≡ constant_with storage.Automatic b count
    → is_constant_place [] (plain_object t held (stored st) is_gone) π ≡ constant_with st b count
stored-const t held storage.Automatic is_gone π b count h = h
stored-const t held storage.Permanent is_gone π b None h = permanent-constant t held is_gone π ∙ h
stored-const t held storage.Permanent is_gone π b (Some n) h = permanent-constant t held is_gone π ∙ h
stored-const t held (storage.Literal bytes) is_gone π b count h = literal-constant t held is_gone π

pub site-of : (T : Tables) (shape : Shape) (b : Bounds) (q : Part) (held : Route → Option Value) (st : Storage) (is_gone : Bool) (n : ℕ) (so : Sort) (inside is_constant : Bool) (count : Option ℕ)
    → count ≡ slice_get (list_of b) (depth q) → so ≡ sort_with shape.form count → is_inside [] (arrays (list_of b) (shape_type T shape)) (route_of q) ≡ inside
    → is_constant ≡ constant_with st shape.is_const count → bound_of [] (arrays (list_of b) (shape_type T shape)) (element_of (route_of q)) ≡ n
    → IsSite (plain_object (arrays (list_of b) (shape_type T shape)) held (stored st) is_gone) (route_of q)
    (record { sort = so; is_inside = inside; is_gone = is_gone; is_constant = is_constant; bound = n })
site-of T shape b q held st is_gone n so inside is_constant count counts sorts insides constant bounded =
    let t = shape_type T shape in
    let π = route_of q in
    let all = arrays (list_of b) t in
    let type = type-of t (single T shape) b q in
    record {
      sort = ap sort_of type ∙ sort-in b q t shape.form (sort-form T shape.is_const shape.form) ∙ ap (sort_with shape.form) (sym counts) ∙ sym sorts;
      is_no_class = ap is_class type ∙ class-in b q t (class-form T shape.is_const shape.form);
      is_inside = insides;
      is_gone = refl;
      is_usable = usable all held (stored st) is_gone π;
      is_dead = dead all held (stored st) is_gone π;
      is_constant = stored-const all held st is_gone π shape.is_const (slice_get (list_of b) (depth q))
          (constant-of t (single T shape) held is_gone b q ∙ const-in t shape.is_const (slice_get (list_of b) (depth q)) (const-form T shape.is_const shape.form))
          ∙ ap (constant_with st shape.is_const) (sym counts) ∙ sym constant;
      bound = bounded;
    }

-- Which arrays have elements.
no-array : (f : Form) → array_sort (sort_with f None) ≡ false
no-array form.Void = refl
no-array (form.Integer k) = refl
no-array (form.Enumeration e) = refl
no-array (form.Pointer t) = refl
no-array (form.Reference t) = refl

pub items-of : (f : Form) (b : Bounds) (q : Part) (site : Site) → site.sort ≡ sort_with f (slice_get (list_of b) (depth q)) → (q ≡ part.Past → site.is_inside ≡ false) → HasItems q site
items-of f b part.Whole site sorts end = record { shallow = λ a d. absurd (cc); inside = λ a i. refl }
items-of f b part.Past site sorts end = record { shallow = λ a d. absurd (cc); inside = λ a i. sym (end refl) ∙ i }
items-of f b (part.Item i) site sorts end = record { shallow = λ a d. absurd (cc); inside = λ a i. refl }
items-of f b (part.Inner i j) site sorts end =
    let none : array_sort site.sort ≡ false = ap array_sort sorts ∙ ap (λ o. array_sort (sort_with f o)) (sym (none_deeper b)) ∙ no-array f in
    record { shallow = λ a d. true≢false (sym a ∙ none); inside = λ a i. absurd (true≢false (sym a ∙ none)) }

pub none-empty : (q : Part) → None ≡ slice_get (list_of bounds.None) (depth q)
none-empty part.Whole = refl
none-empty part.Past = refl
none-empty (part.Item i) = refl
none-empty (part.Inner i j) = refl

-- The kind of an array's characters is that of the object's scalars.
kind-form : (T : Tables) (b : Bool) (f : Form) → character_kind (kept b (form_type T f)) ≡ form_kind f
kind-form T true form.Void = refl
kind-form T false form.Void = refl
kind-form T true (form.Integer k) = refl
kind-form T false (form.Integer k) = refl
kind-form T true (form.Enumeration e) = refl
kind-form T false (form.Enumeration e) = refl
kind-form T true (form.Pointer t) = refl
kind-form T false (form.Pointer t) = refl
kind-form T true (form.Reference t) = refl
kind-form T false (form.Reference t) = refl

kind-in : (T : Tables) (b : Bounds) (c : Bool) (f : Form) (i : Option ℕ)
    → character_kind (type_at [] (arrays (list_of b) (kept c (form_type T f))) (row_route i)) ≡ character_kind (kept c (form_type T f))
kind-in T bounds.None c f None = refl
kind-in T (bounds.One n) c f None = refl
kind-in T (bounds.Two n m) c f None = refl
kind-in T bounds.None true form.Void (Some i) = refl
kind-in T bounds.None false form.Void (Some i) = refl
kind-in T bounds.None true (form.Integer k) (Some i) = refl
kind-in T bounds.None false (form.Integer k) (Some i) = refl
kind-in T bounds.None true (form.Enumeration e) (Some i) = refl
kind-in T bounds.None false (form.Enumeration e) (Some i) = refl
kind-in T bounds.None true (form.Pointer t) (Some i) = refl
kind-in T bounds.None false (form.Pointer t) (Some i) = refl
kind-in T bounds.None true (form.Reference t) (Some i) = refl
kind-in T bounds.None false (form.Reference t) (Some i) = refl
kind-in T (bounds.One n) c f (Some i) = refl
kind-in T (bounds.Two n m) c f (Some i) = refl

pub kind-row : (T : Tables) (s : Shape) (b : Bounds) (i : Option ℕ) → character_kind (type_at [] (arrays (list_of b) (shape_type T s)) (row_route i)) ≡ form_kind s.form
kind-row T s b i = kind-in T b s.is_const s.form i ∙ kind-form T s.is_const s.form

pub kind-nowhere : (i : Option ℕ) → character_kind (type_at [] void (row_route i)) ≡ Char
kind-nowhere None = refl
kind-nowhere (Some i) = refl

pub elements-of : (x : Object) (π : Route) (site : Site) (n : ℕ) → IsSite x π site → site.sort ≡ sort.Array n → HasElements (type_at [] x.type π) n
elements-of x π site n is h = record {
  array = array-as (type_at [] x.type π) ∙ ap array_sort (is.sort ∙ h);
  class = is.is_no_class;
  count = count-as (type_at [] x.type π) n (is.sort ∙ h);
}

pub no-elements : (x : Object) (π : Route) (site : Site) → IsSite x π site → array_sort site.sort ≡ false → HasNone (type_at [] x.type π)
no-elements x π site is h = record { array = array-as (type_at [] x.type π) ∙ ap array_sort is.sort ∙ h; class = is.is_no_class }
