-- What the meaning says of a place of an object, but for what it holds.
use Rattle.std.specs.Prelude.{ℕ, ◌≡◌, Bool, true, false, not, [], pos, Option, Some, None, Result, Ok, Err}
use Rattle.cf_base.specs.declared.kind.Kind.{Kind}
use Rattle.cf_base.specs.declared.kind.Kind.TheVariants.{Char}
use Rattle.cf_core.specs.Types.{SourceType, void, integer, enumeration, class, pointer, reference, array, takes, gives, data_member, function_member, const, is_array, is_class}
use Rattle.cf_core.specs.Objects.{element_count}
use Rattle.cf_core.specs.Places.{Route, type_at, is_inside}
use Rattle.cf_core.specs.Pointers.{element_of, bound_of}
use Rattle.cf_core.specs.Store.{Value, Number, Null, Object, is_usable, is_dead, is_constant_place}
use Rattle.cf_core_objects.specs.declared.answer.Stop.{Stop}
use Rattle.cf_core_objects.specs.declared.answer.Stop.TheVariants as stop
use Rattle.cf_run_tree.specs.declared.shape.Form.{Form}
use Rattle.cf_run_tree.specs.declared.shape.Form.TheVariants as form
use Rattle.cf_core_place.specs.declared.goal.Goal.{Goal}
use Rattle.cf_core_place.specs.declared.part.Part.{Part}
use Rattle.cf_core_place.specs.Routes.{depth, has_items, goal_place, row_place}
use Rattle.cf_core_objects.specs.declared.filling.Array.{Array}
use Rattle.cf_core_objects.specs.declared.object.Storage.{Storage}
use Rattle.cf_core_objects.specs.declared.object.Storage.TheVariants as storage
use Rattle.cf_core_objects.specs.declared.site.Site.{Site}
use Rattle.cf_core_objects.specs.declared.site.Sort.{Sort}
use Rattle.cf_core_objects.specs.declared.site.Sort.TheVariants as sort

abbrev pub sort_of : SourceType → Sort
sort_of void = sort.Void
sort_of (integer k) = sort.Number
sort_of (enumeration e) = sort.Number
sort_of (class c) = sort.Void
sort_of (pointer t) = sort.Pointer
sort_of (reference t) = sort.Reference
sort_of (array t n) = sort.Array n
sort_of (takes p t) = sort.Void
sort_of (gives t c) = sort.Void
sort_of (data_member c t) = sort.Pointer
sort_of (function_member c t) = sort.Pointer
sort_of (const t) = sort_of t

abbrev pub scalar_sort : Sort → Bool
scalar_sort sort.Void = false
scalar_sort sort.Number = true
scalar_sort sort.Pointer = true
scalar_sort sort.Reference = true
scalar_sort (sort.Array n) = false

abbrev pub reference_sort : Sort → Bool
reference_sort sort.Void = false
reference_sort sort.Number = false
reference_sort sort.Pointer = false
reference_sort sort.Reference = true
reference_sort (sort.Array n) = false

abbrev pub array_sort : Sort → Bool
array_sort sort.Void = false
array_sort sort.Number = false
array_sort sort.Pointer = false
array_sort sort.Reference = false
array_sort (sort.Array n) = true

-- what zeroed storage holds there (8.4)
abbrev pub zero_sort : Sort → Value
zero_sort sort.Void = Null
zero_sort sort.Number = Number (pos 0)
zero_sort sort.Pointer = Null
zero_sort sort.Reference = Null
zero_sort (sort.Array n) = Null

-- of an array of so many elements, or of a scalar of this form where it is none
abbrev pub sort_with : Form → Option ℕ → Sort
sort_with f (Some n) = sort.Array n
sort_with form.Void None = sort.Void
sort_with (form.Integer k) None = sort.Number
sort_with (form.Enumeration e) None = sort.Number
sort_with (form.Pointer t) None = sort.Pointer
sort_with (form.Reference t) None = sort.Reference

-- the kind of the integers of a form
abbrev pub form_kind : Form → Kind
form_kind form.Void = Char
form_kind (form.Integer k) = k
form_kind (form.Enumeration e) = Char
form_kind (form.Pointer t) = Char
form_kind (form.Reference t) = Char

abbrev pub constant_with : Storage → Bool → Option ℕ → Bool
constant_with (storage.Literal bytes) is_const count = true
constant_with storage.Automatic is_const None = is_const
constant_with storage.Automatic is_const (Some n) = false
constant_with storage.Permanent is_const None = is_const
constant_with storage.Permanent is_const (Some n) = false

pub record IsSite (x : Object) (π : Route) (site : Site) : Type 0 where
  pub sort : sort_of (type_at [] x.type π) ≡ site.sort
  pub is_no_class : is_class (type_at [] x.type π) ≡ false
  pub is_inside : is_inside [] x.type π ≡ site.is_inside
  pub is_gone : x.is_gone ≡ site.is_gone
  pub is_usable : is_usable [] x π ≡ not site.is_gone
  pub is_dead : is_dead [] x π ≡ site.is_gone
  pub is_constant : is_constant_place [] x π ≡ site.is_constant
  pub bound : bound_of [] x.type (element_of π) ≡ site.bound

-- An array is no element of an element, and one that is no end has elements.
pub record HasItems (q : Part) (site : Site) : Type 0 where
  pub shallow : array_sort site.sort ≡ true → depth q ≡ 2 → ⊥
  pub inside : array_sort site.sort ≡ true → site.is_inside ≡ true → has_items q ≡ true

-- an array of this type has so many elements
pub record HasElements (t : SourceType) (n : ℕ) : Type 0 where
  pub array : is_array t ≡ true
  pub class : is_class t ≡ false
  pub count : element_count [] t ≡ n

-- it is no array, and no class
pub record HasNone (t : SourceType) : Type 0 where
  pub array : is_array t ≡ false
  pub class : is_class t ≡ false

-- what a place is as an array
abbrev pub Counted : SourceType → Goal → Result Array Stop → Type 0
Counted t g (Ok a) = HasElements t a.count × (row_place a.row ≡ goal_place g)
Counted t g (Err stop.Malformed) = HasNone t
Counted t g (Err (stop.Act act)) = ⊥
Counted t g (Err stop.Memory) = ⊥
