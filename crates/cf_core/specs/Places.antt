-- Places: an object and the parts that lead from it. There are no addresses.
use Rattle.std.specs.Prelude.{ℕ, Bool, true, false, ◌&&◌, ◌||◌, ◌==◌, nat_lt, List, [], ◌∷◌, ◌++◌, Option, Some, None, slice_get, option_map}
use Rattle.cf_core.specs.Types.{Name, SourceType, void, integer, enumeration, class, pointer, reference, array, takes, gives, data_member, function_member, const, plain, element}
use Rattle.cf_core.specs.Classes.{Base, Class, bases_of, fields_of, type_in}
use Rattle.cf_core.specs.Subobjects.{Step, base, virtual, Path, step_eq}
use Rattle.cf_core.specs.Core.{Part, item, past, field, within}

-- the parts that lead to a place, the last one first
abbrev pub Route : Type 0
Route = List Part

-- A place: an object by its number, and a route. The end of an array is the element of its number of elements.
pub record Place : Type 0 where
  pub object : ℕ
  pub route : Route

abbrev pub inner : Part → Place → Place
inner s p = record p { route = s ∷ p.route }

abbrev pub part_eq : Part → Part → Bool
part_eq (item i) (item j) = i == j
part_eq past past = true
part_eq (field i) (field j) = i == j
part_eq (within s) (within t) = step_eq s t
part_eq s t = false

abbrev pub route_eq : Route → Route → Bool
route_eq [] [] = true
route_eq (s ∷ π) (t ∷ ρ) = part_eq s t && route_eq π ρ
route_eq π ρ = false

abbrev pub place_eq : Place → Place → Bool
place_eq p q = (p.object == q.object) && route_eq p.route q.route

-- what leads from the second route to the first, if that lies in it
abbrev pub beyond : Route → Route → Option Route
beyond [] ρ = if_same (route_eq [] ρ) []
  where
    if_same : Bool → Route → Option Route
    if_same true r = Some r
    if_same false r = None
beyond (s ∷ π) ρ = here (route_eq (s ∷ π) ρ) (option_map (λ (r : Route). s ∷ r) (beyond π ρ))
  where
    here : Bool → Option Route → Option Route
    here true r = Some []
    here false r = r

abbrev pub is_beyond : Route → Route → Bool
is_beyond [] ρ = route_eq [] ρ
is_beyond (s ∷ π) ρ = route_eq (s ∷ π) ρ || is_beyond π ρ

-- Subobjects of bases.

-- the object that isn't a base part of another, in which the place is a base part or the whole (12.6.2)
abbrev pub whole : Route → Route
whole [] = []
whole (within s ∷ π) = whole π
whole (item i ∷ π) = item i ∷ π
whole (past ∷ π) = past ∷ π
whole (field i ∷ π) = field i ∷ π

-- the path from there to the place
abbrev pub path_in : Route → Path
path_in [] = []
path_in (within s ∷ π) = path_in π ++ s ∷ []
path_in (item i ∷ π) = []
path_in (past ∷ π) = []
path_in (field i ∷ π) = []

-- along a path from a place: a virtual base stands in the whole object (10.1)
abbrev pub along : Path → Route → Route
along [] π = π
along (base i ∷ r) π = along r (within (base i) ∷ π)
along (virtual c ∷ r) π = along r (within (virtual c) ∷ whole π)

-- the route without these last steps, the last one first, where it ends in them
abbrev pub without : Path → Route → Option Route
without [] π = Some π
without (s ∷ r) [] = None
without (s ∷ r) (within t ∷ π) = elim (step_eq s t) [ true ↦ without r π | false ↦ None ]
without (s ∷ r) (item i ∷ π) = None
without (s ∷ r) (past ∷ π) = None
without (s ∷ r) (field i ∷ π) = None

-- Types of places.

abbrev pub class_of : SourceType → Name
class_of (class c) = c
class_of (const t) = class_of t
class_of t = []

abbrev pub class_in : Option Base → Name
class_in None = []
class_in (Some b) = b.class

abbrev pub step_class : List Class → Name → Step → Name
step_class classes c (base i) = class_in (slice_get (bases_of classes c) i)
step_class classes c (virtual d) = d

-- the type of a part of an object of this type
abbrev pub part_type : List Class → SourceType → Part → SourceType
part_type classes t (item i) = element (plain t)
part_type classes t past = t
part_type classes t (field i) = type_in (slice_get (fields_of classes (class_of t)) i)
part_type classes t (within s) = class (step_class classes (class_of t) s)

-- the type of the place at a route in an object of this type
abbrev pub type_at : List Class → SourceType → Route → SourceType
type_at classes t [] = t
type_at classes t (s ∷ π) = part_type classes (type_at classes t π) s

-- how many elements an array has; an object that is none counts as an array of one (5.7)
abbrev pub bound : SourceType → ℕ
bound (array t n) = n
bound (const t) = bound t
bound t = 1

-- whether a part is one that an object of this type has, and no end of an array
abbrev pub is_part : SourceType → Part → Bool
is_part t (item i) = nat_lt i (bound t)
is_part t past = false
is_part t (field i) = true
is_part t (within s) = true

-- whether a route leads to a part of the object, and not to or over the end of an array
abbrev pub is_inside : List Class → SourceType → Route → Bool
is_inside classes t [] = true
is_inside classes t (s ∷ π) = is_part (type_at classes t π) s && is_inside classes t π

-- whether values of the type are scalars (3.6.1)
abbrev pub is_scalar : SourceType → Bool
is_scalar void = false
is_scalar (integer k) = true
is_scalar (enumeration e) = true
is_scalar (class c) = false
is_scalar (pointer t) = true
is_scalar (reference t) = true
is_scalar (array t n) = false
is_scalar (takes p t) = false
is_scalar (gives t c) = false
is_scalar (data_member c t) = true
is_scalar (function_member c t) = true
is_scalar (const t) = is_scalar t

abbrev pub is_reference : SourceType → Bool
is_reference (reference t) = true
is_reference (const t) = is_reference t
is_reference t = false

abbrev pub is_const : SourceType → Bool
is_const (const t) = true
is_const t = false
