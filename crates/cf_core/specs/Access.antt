-- Reading and writing scalars, and what each is undefined on. A core whose parts have other types than their node takes is malformed.
use Rattle.std.specs.Prelude.{ℕ, not, nat_lt, is_some, length, List, ◌++◌, ℤ, Some, Bool}
use Rattle.cf_core.specs.Types.{SourceType, same_but_const}
use Rattle.cf_core.specs.Classes.{Class, fields_of}
use Rattle.cf_core.specs.Subobjects.{Path, class_at}
use Rattle.cf_core.specs.Core.{field}
use Rattle.cf_core.specs.Places.{Route, Place, inner, type_at, is_inside, is_reference, is_scalar, class_of}
use Rattle.cf_core.specs.Store.{Value, Nothing, Missing, Built, Number, Null, At, Code, DataMember, FunctionMember, Object, hold, hold_all, all_alive, zero_of, is_usable, is_constant_place}
use Rattle.cf_core.specs.Run.{State, Act, ◌>>=◌, ◌>>◌, gives, malformed, undefined, state, need, valid, some_or, when, object_changed, null_used, not_alive, outside_array, no_value, write_to_const, no_result}

abbrev pub place_type : List Class → State → Place → SourceType
place_type classes s p = type_at classes (s.object p.object).type p.route

-- a value that is used: the use of one that a function ended without is undefined (6.6.3)
abbrev pub used : Value → Act Value
used Nothing = malformed
used Missing = undefined no_result
used Built = malformed
used (Number z) = gives (Number z)
used Null = gives Null
used (At p) = gives (At p)
used (Code f) = gives (Code f)
used (DataMember path i) = gives (DataMember path i)
used (FunctionMember path t) = gives (FunctionMember path t)

abbrev pub using : Act Value → Act Value
using act = act >>= used

-- the place that an lvalue is
abbrev pub place_of : Value → Act Place
place_of (At p) = gives p
place_of v = malformed

abbrev pub number_of : Value → Act ℤ
number_of (Number z) = gives z
number_of v = malformed

-- the place of an expression
abbrev pub placed : Act Value → Act Place
placed act = act >>= used >>= place_of

-- a place is used: it isn't the end of an array, and lies in objects that may be used
abbrev pub use_place : List Class → Place → Act (Unit {0})
use_place classes p = do
  s ← state
  need (is_inside classes (s.object p.object).type p.route) outside_array
  need (is_usable classes (s.object p.object) p.route) not_alive

-- an element of an array, or its first, is named: the array isn't the end of another
abbrev pub name_part : List Class → Place → Act (Unit {0})
name_part classes p = do
  s ← state
  need (is_inside classes (s.object p.object).type p.route) outside_array

-- the storage in which a place lies has not ended
abbrev pub stands : Place → Act (Unit {0})
stands p = do
  s ← state
  need (not (s.object p.object).is_gone) not_alive

-- a member or a base of the object at a place is named: it isn't the end of an array, and its storage has not ended (5.2.4)
abbrev pub name_subobject : List Class → Place → Act (Unit {0})
name_subobject classes p = name_part classes p >> stands p

-- a data member of a place of its class
abbrev pub name_field : List Class → ℕ → Place → Act Place
name_field classes i p = do
  s ← state
  valid (nat_lt i (length (fields_of classes (class_of (place_type classes s p)))))
  name_subobject classes p
  gives (inner (field i) p)

-- whether the class of a place has this path
abbrev pub has_path : List Class → State → Place → Path → Bool
has_path classes s p path = is_some (class_at classes (class_of (place_type classes s p)) path)

-- a place of this type, otherwise than in const
abbrev pub place_has : List Class → SourceType → Place → Act (Unit {0})
place_has classes t p = do
  s ← state
  valid (same_but_const (place_type classes s p) t)

abbrev pub names_scalar : List Class → Place → Act (Unit {0})
names_scalar classes p = do
  s ← state
  valid (is_scalar (place_type classes s p))

-- the value that a scalar holds (4.1)
abbrev pub read_place : List Class → Place → Act Value
read_place classes p = do
  names_scalar classes p
  use_place classes p
  s ← state
  some_or ((s.object p.object).held p.route) (undefined no_value)

-- the first value of a scalar
abbrev pub first_value : Place → Value → Act (Unit {0})
first_value p v = object_changed p.object (hold p.route (Some v))

-- a value is written to a scalar that may be changed (5.17, 7.1.6)
abbrev pub write_place : List Class → Place → Value → Act (Unit {0})
write_place classes p v = do
  names_scalar classes p
  use_place classes p
  s ← state
  need (not (is_constant_place classes (s.object p.object) p.route)) write_to_const
  object_changed p.object (hold p.route (Some v))

-- what a reference is bound to
abbrev pub bound_to : Value → Act Value
bound_to Null = undefined null_used
bound_to v = gives v

-- The place that a name stands for: a reference is another name for what it is bound to (8.4.3).
abbrev pub followed : List Class → Place → Act Value
followed classes p = do
  s ← state
  when (is_reference (place_type classes s p)) (read_place classes p >>= bound_to) (gives (At p))

-- Memberwise copies move each scalar, one without a value too (12.8).
abbrev pub carry_all : Route → Object → Route → Object → Object
carry_all π source ρ target = hold_all ρ (λ r. source.held (r ++ π)) target

-- the first copy of a place to another, after which the object there is alive
abbrev pub copy_first : List Class → Place → Place → Act (Unit {0})
copy_first classes from to = do
  use_place classes from
  s ← state
  object_changed to.object (λ x. all_alive to.route (carry_all from.route (s.object from.object) to.route x))

-- a copy over what stands there
abbrev pub copy_over : List Class → Place → Place → Act (Unit {0})
copy_over classes from to = do
  use_place classes from
  use_place classes to
  s ← state
  need (not (is_constant_place classes (s.object to.object) to.route)) write_to_const
  object_changed to.object (carry_all from.route (s.object from.object) to.route)

-- every scalar at a place is 0 or null
abbrev pub fill_zeros : List Class → Place → Act (Unit {0})
fill_zeros classes p = do
  s ← state
  let t = (s.object p.object).type
  object_changed p.object (hold_all p.route (λ r. Some (zero_of (type_at classes t (r ++ p.route)))))
