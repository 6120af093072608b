-- The order in which an object is built and destroyed (12.6.2), its active part (12.7), and the function that a virtual call runs (10.2).
use Rattle.std.specs.Prelude.{ℕ, suc, Bool, true, false, not, if◌then◌else◌, List, [], ◌∷◌, ◌++◌, Option, Some, None, map, find, slice_get, nat_lt, length, bytes_eq}
use Rattle.std.specs.List.{list_any}
use Rattle.cf_core.specs.Types.{Name, SourceType, class}
use Rattle.cf_core.specs.Classes.{Base, Class, bases_of, fields_of}
use Rattle.cf_core.specs.Subobjects.{base, virtual, Path, path_eq, joined, Subobject, subobjects, virtual_bases, lies_in, final_overrider}
use Rattle.cf_core.specs.Core.{Part, item, past, field, within}
use Rattle.cf_core.specs.Places.{Route, Place, inner, whole, path_in, along, type_at, class_of}
use Rattle.cf_core.specs.Store.{Life, unbuilt, in_construction, alive, in_destruction, dead, life_at, is_dead, set_life, Value, Null, At, Object}
use Rattle.cf_core.specs.Run.{State, Act, ◌>>=◌, ◌>>◌, gives, malformed, undefined, state, done, need, valid, some_or, object_changed, not_alive, outside_active, pure_call}
use Rattle.cf_core.specs.Access.{name_part, name_subobject, has_path}

-- a base or data member, and its type
pub record BuiltPart : Type 0 where
  pub part : Part
  pub type : SourceType

abbrev pub direct_parts : List Base → ℕ → List BuiltPart
direct_parts [] i = []
direct_parts (b ∷ rest) i =
    (if b.is_virtual then [] else record { part = within (base i); type = class b.class } ∷ []) ++ direct_parts rest (suc i)

abbrev pub field_parts : List SourceType → ℕ → List BuiltPart
field_parts [] i = []
field_parts (t ∷ rest) i = record { part = field i; type = t } ∷ field_parts rest (suc i)

abbrev pub virtual_part : Name → BuiltPart
virtual_part v = record { part = within (virtual v); type = class v }

-- The list of building: the virtual bases where it is a whole object, then the direct nonvirtual bases, then the data members, each in order.
-- The body of the constructor comes after them; destruction runs the body and then the list backwards.
abbrev pub building : List Class → Name → Bool → List BuiltPart
building classes c is_whole =
    (if is_whole then map virtual_part (virtual_bases classes c) else [])
    ++ direct_parts (bases_of classes c) 0
    ++ field_parts (fields_of classes c) 0

-- a base or data member of a place of its class
abbrev pub part_place : Part → Place → Place
part_place (within s) p = record p { route = along (s ∷ []) p.route }
part_place (item i) p = inner (item i) p
part_place past p = inner past p
part_place (field i) p = inner (field i) p

-- whether an object of this type has the part to build
abbrev pub has_part : List Class → SourceType → Part → Bool
has_part classes t (within (base i)) = is_direct (slice_get (bases_of classes (class_of t)) i)
  where
    is_direct : Option Base → Bool
    is_direct None = false
    is_direct (Some b) = not b.is_virtual
has_part classes t (within (virtual v)) = list_any (bytes_eq v) (virtual_bases classes (class_of t))
has_part classes t (field i) = nat_lt i (length (fields_of classes (class_of t)))
has_part classes t (item i) = false
has_part classes t past = false

abbrev pub is_empty : Path → Bool
is_empty [] = true
is_empty (s ∷ p) = false

-- whether the place is no base part of another object
abbrev pub is_whole : Place → Bool
is_whole p = is_empty (path_in p.route)

-- The object that a place is a base part of, or is itself, is in this state.
abbrev pub whole_life : List Class → Place → State → Life
whole_life classes p s = life_at classes (s.object p.object) (whole p.route)

abbrev pub sets_life : Place → Life → Act (Unit {0})
sets_life p l = object_changed p.object (set_life (whole p.route) l)

-- a constructor is entered for a part: it is the active one, and its construction has begun
abbrev pub constructing : Path → Life → Life
constructing q (in_construction a begun) = in_construction q (q ∷ begun)
constructing q unbuilt = in_construction q (q ∷ [])
constructing q alive = in_construction q (q ∷ [])
constructing q (in_destruction a) = in_construction q (q ∷ [])
constructing q dead = in_construction q (q ∷ [])

-- a constructor has ended: the whole object is alive, and after a base part the part that was active before is so again
abbrev pub constructed : Path → Life → Life → Life
constructed [] before now = alive
constructed (s ∷ q) (in_construction a begun) (in_construction r all) = in_construction a all
constructed (s ∷ q) before now = before

-- a destructor has ended
abbrev pub destroyed : Path → Life → Life
destroyed [] before = dead
destroyed (s ∷ q) before = before

-- The active part of the object in which a place stands, and the place has to lie in it with its construction begun (12.7).
abbrev pub active_of : Path → Life → Act Path
active_of p unbuilt = undefined outside_active
active_of p (in_construction q begun) = need (list_any (path_eq p) begun) outside_active >> gives q
active_of p alive = gives []
active_of p (in_destruction q) = gives q
active_of p dead = undefined not_alive

abbrev pub part_class : List Class → Object → Route → Name
part_class classes x π = class_of (type_at classes x.type π)

abbrev pub active_part : List Class → Place → Act Path
active_part classes p = do
  name_part classes p
  s ← state
  let x = s.object p.object
  need (not (is_dead classes x (whole p.route))) not_alive
  q ← active_of (path_in p.route) (whole_life classes p s)
  need (lies_in classes (part_class classes x (along q (whole p.route))) q (path_in p.route)) outside_active
  gives q

-- a function that is called on an object
pub record Called : Type 0 where
  pub name : Name
  pub this : Place

-- what leads from the active part q of class c to the place at path p
abbrev pub relative : List Class → Name → Path → Path → Option Subobject
relative classes c q p = find (λ (r : Subobject). path_eq (joined q r.path) p) (subobjects classes c)

-- A virtual call of the function of this signature on a place: the overrider in the class of the active part.
abbrev pub dispatch : List Class → Place → Name → Act Called
dispatch classes p signature = do
  q ← active_part classes p
  s ← state
  let active = along q (whole p.route)
  let c = part_class classes (s.object p.object) active
  r ← some_or (relative classes c q (path_in p.route)) malformed
  f ← some_or (final_overrider classes c r.path signature) malformed
  need (not f.function.is_pure) pure_call
  gives (record { name = f.function.name; this = record p { route = along f.path active } })

-- A conversion to a base: to a virtual one the place has to lie in the active part, with its construction begun. Null stays null.
abbrev pub through_virtual : List Class → Place → Path → Act (Unit {0})
through_virtual classes p [] = done
through_virtual classes p (base i ∷ path) = name_subobject classes p
through_virtual classes p (virtual c ∷ path) = active_part classes p >> done

abbrev pub up_value : List Class → Path → Value → Act Value
up_value classes path Null = gives Null
up_value classes path (At p) = do
  s ← state
  valid (has_path classes s p path)
  through_virtual classes p path
  gives (At (record p { route = along path p.route }))
up_value classes path v = malformed
