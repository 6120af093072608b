-- The objects of a run: what scalars hold, and which parts are under construction, alive, under destruction or dead.
use Rattle.std.specs.Prelude.{ℕ, Bool, true, false, ◌&&◌, ◌||◌, not, if◌then◌else◌, List, [], ◌∷◌, ℤ, pos, Option, Some, None}
use Rattle.cf_core.specs.Types.{Name, SourceType, integer, enumeration, const}
use Rattle.cf_core.specs.Classes.{Class, class_named, is_built_in}
use Rattle.cf_core.specs.Subobjects.{Path}
use Rattle.cf_core.specs.Core.{Part, within, Target}
use Rattle.cf_core.specs.Places.{Route, Place, beyond, is_beyond, route_eq, type_at, is_const, class_of}

-- What an expression gives. A place stands for an lvalue and for a pointer to it alike.
pub data Value : Type 0 where
  Nothing : Value  -- of type void
  Missing : Value  -- of a function that ended without the value that it should give (6.6.3)
  Built : Value  -- of an initialiser that has built the place that it was given
  Number : ℤ → Value  -- of an integer type or an enumeration
  Null : Value  -- a null pointer or null pointer to member
  At : Place → Value
  Code : Name → Value  -- a function, or a pointer to it
  DataMember : Path → ℕ → Value  -- a data member of the subobject at a path
  FunctionMember : Path → Target → Value

-- what static storage holds before any initialisation (8.4)
abbrev pub zero_of : SourceType → Value
zero_of (integer k) = Number (pos 0)
zero_of (enumeration e) = Number (pos 0)
zero_of (const t) = zero_of t
zero_of t = Null

-- How far an object is built that isn't a base part of another. Under construction and destruction the path is that of the active part:
-- the innermost whose constructor or destructor has been entered and hasn't ended (12.7). The list has each part whose constructor
-- has been entered.
pub data Life : Type 0 where
  unbuilt : Life
  in_construction : Path → List Path → Life
  alive : Life
  in_destruction : Path → Life
  dead : Life

-- where an object is stored: in a function, for the whole run, in a string literal, or in the free store, for `new[]` where true,
-- with the bytes that it is charged
pub data Storage : Type 0 where
  automatic : Storage
  permanent : Storage
  literal : Storage
  free_store : Bool → ℕ → Storage

pub record Object : Type 0 where
  pub type : SourceType
  pub held : Route → Option Value  -- what the scalar at a route holds
  pub life : Route → Option Life  -- of the objects in it that were built or destroyed
  pub storage : Storage
  pub is_gone : Bool

abbrev pub new_object : SourceType → Storage → Object
new_object t s = record { type = t; held = λ π. None; life = λ π. None; storage = s; is_gone = false }

abbrev pub zeroed_object : List Class → SourceType → Object
zeroed_object classes t = record { type = t; held = λ π. Some (zero_of (type_at classes t π)); life = λ π. None; storage = permanent; is_gone = false }

abbrev pub hold : Route → Option Value → Object → Object
hold π v x = record x { held = λ ρ. if route_eq ρ π then v else x.held ρ }

-- what stands at a part that the first route leads to from the second
abbrev pub from_part : (Route → Option Value) → Option Route → Option Value → Option Value
from_part values None v = v
from_part values (Some r) v = values r

-- each scalar in the part at a route holds what is given for the way to it from there
abbrev pub hold_all : Route → (Route → Option Value) → Object → Object
hold_all π values x = record x { held = λ ρ. from_part values (beyond ρ π) (x.held ρ) }

abbrev pub set_life : Route → Life → Object → Object
set_life π l x = record x { life = λ ρ. if route_eq ρ π then Some l else x.life ρ }

-- the part at a route, and each object in it, is alive
abbrev pub all_alive : Route → Object → Object
all_alive π x = record x { life = λ ρ. if is_beyond ρ π then Some alive else x.life ρ }

-- An object whose class has a constructor is unbuilt until that is entered; any other is alive as soon as its storage is there.
abbrev pub first_life : List Class → SourceType → Life
first_life classes t = if is_built_in (class_named classes (class_of t)) then unbuilt else alive

abbrev pub life_in : Option Life → Life → Life
life_in None l = l
life_in (Some k) l = k

abbrev pub life_at : List Class → Object → Route → Life
life_at classes x π = life_in (x.life π) (first_life classes (type_at classes x.type π))

-- an object may be used while it is built, alive, or being destroyed
abbrev pub is_usable_life : Life → Bool
is_usable_life unbuilt = false
is_usable_life (in_construction q begun) = true
is_usable_life alive = true
is_usable_life (in_destruction q) = true
is_usable_life dead = false

abbrev pub is_base_part : Part → Bool
is_base_part (within s) = true
is_base_part s = false

-- whether every object that the place lies in may be used
abbrev pub is_usable : List Class → Object → Route → Bool
is_usable classes x [] = not x.is_gone && is_usable_life (life_at classes x [])
is_usable classes x (s ∷ π) = (is_base_part s || is_usable_life (life_at classes x (s ∷ π))) && is_usable classes x π

abbrev pub is_dead_life : Life → Bool
is_dead_life unbuilt = false
is_dead_life (in_construction q begun) = false
is_dead_life alive = false
is_dead_life (in_destruction q) = false
is_dead_life dead = true

-- whether the place lies in a dead object
abbrev pub is_dead : List Class → Object → Route → Bool
is_dead classes x [] = x.is_gone || is_dead_life (life_at classes x [])
is_dead classes x (s ∷ π) = (not (is_base_part s) && is_dead_life (life_at classes x (s ∷ π))) || is_dead classes x π

-- a const object under construction or destruction may be changed (12.1, 12.4)
abbrev pub is_settled : Life → Bool
is_settled alive = true
is_settled l = false

abbrev pub is_fixed : List Class → Object → Route → Bool
is_fixed classes x π = is_const (type_at classes x.type π) && is_settled (life_at classes x π)

-- whether the place lies in an object that was declared const, or in a string literal
abbrev pub is_constant_place : List Class → Object → Route → Bool
is_constant_place classes x [] = is_literal x.storage || is_fixed classes x []
  where
    is_literal : Storage → Bool
    is_literal literal = true
    is_literal s = false
is_constant_place classes x (s ∷ π) = is_fixed classes x (s ∷ π) || is_constant_place classes x π
