-- The objects that names and literals stand for, initialised places, storage of the free store, and calls through pointers.
use Rattle.std.specs.Prelude.{if◌then◌else◌, ℕ, suc, ◌+◌, nat_lt, Bool, true, false, ◌&&◌, ◌||◌, ◌==◌, List, [], ◌∷◌, pos, negsuc, Option, Some, None, find, position, slice_get, option_map, length, bytes_eq}
use Rattle.cf_base.specs.declared.kind.Kind.{Kind}
use Rattle.cf_base.specs.declared.kind.Kind.TheVariants.{Char}
use Rattle.cf_base.specs.Integers.{convert as converted}
use Rattle.cf_core.specs.Types.{is_class, is_array, result, Name, SourceType, void, integer, array, const, plain, element, same_but_const}
use Rattle.cf_core.specs.Classes.{Class, fields_of}
use Rattle.cf_core.specs.Core.{Core, Cores, Part, item, field, Target, direct, dispatched, none, more, Static, build, copy, each, list}
use Rattle.cf_core.specs.Places.{Route, Place, inner, along, bound, is_scalar, class_of}
use Rattle.cf_core.specs.Store.{Value, Built, Number, Null, Code, FunctionMember, Object, new_object, in_construction, alive, set_life, literal, free_store}
use Rattle.cf_core.specs.Size.{size}
use Rattle.cf_core.specs.Run.{object_changed, Literal, Act, ◌>>=◌, ◌>>◌, gives, malformed, undefined, state, changed, done, tick, need, some_or, valid, when, born, declared_object, frame_changed, lists_local, take_heap, null_used, not_alive, outside_array, cast_from_void}
use Rattle.cf_core.specs.Access.{place_type, used, name_subobject, first_value}
use Rattle.cf_core.specs.Building.{dispatch}
use Rattle.cf_core.specs.Calls.{Program, Again, root, run_named, has_copy}

-- A parameter or local; one whose declaration was not reached is no object that is alive (6.7).
abbrev pub local_place : ℕ → Act Place
local_place i = do
  s ← state
  valid (nat_lt i s.frame.count)
  o ← some_or (s.frame.locals i) (undefined not_alive)
  gives (root o)

abbrev pub static_number : Program → Name → Option ℕ
static_number P name = position (λ (x : Static). bytes_eq x.name name) P.statics

abbrev pub static_type : Program → Name → SourceType
static_type P name = type_of_found (find (λ (x : Static). bytes_eq x.name name) P.statics)
  where
    type_of_found : Option Static → SourceType
    type_of_found None = void
    type_of_found (Some x) = x.type

abbrev pub static_place : Program → Name → Act Place
static_place P name = some_or (static_number P name) malformed >>= (λ o. gives (root o))

abbrev pub same_type : Program → Name → SourceType → Act (Unit {0})
same_type P name t = static_place P name >> need (same_but_const (static_type P name) t) cast_from_void

-- a string literal is one object for the whole run (2.5.4)
abbrev pub byte_at : List ℕ → Route → Option Value
byte_at bytes (item i ∷ []) = option_map (λ (b : ℕ). Number (converted Char (pos b))) (slice_get bytes i)
byte_at bytes π = None

abbrev pub literal_of : List ℕ → Object
literal_of bytes = record {
  type = array (integer Char) (length bytes);
  held = byte_at bytes;
  life = λ π. None;
  storage = literal;
  is_gone = false;
}

abbrev pub found_literal : Option Literal → Option ℕ
found_literal None = None
found_literal (Some x) = Some x.object

abbrev pub literal_object : ℕ → List ℕ → Act ℕ
literal_object j bytes = do
  s ← state
  let f = s.frame.function
  let made = find (λ (x : Literal). bytes_eq x.function f && (x.number == j)) s.literals
  some_or (found_literal made) (do
    o ← born (literal_of bytes)
    changed (λ s. record s { literals = record { function = f; number = j; object = o } ∷ s.literals })
    gives o)

abbrev pub new_local : ℕ → SourceType → Act ℕ
new_local i t = do
  s ← state
  valid (nat_lt i s.frame.count)
  o ← declared_object t
  frame_changed (lists_local i o)
  gives o

-- An initialiser has given a value for a place: a scalar or reference holds it, any other object has been built (8.4).
abbrev pub settle : List Class → Place → Value → Act (Unit {0})
settle classes p Built = done
settle classes p v = do
  s ← state
  when (is_scalar (place_type classes s p)) (used v >>= first_value p) malformed

abbrev pub settled : List Class → Place → Act Value → Act (Unit {0})
settled classes p act = act >>= settle classes p

-- where a call builds its result: the place that is given, for a result of class type
abbrev pub result_place : SourceType → Option Place → Option Place
result_place t into = if is_class (result t) then into else None

abbrev pub built_at : Option Place → Act Place
built_at into = some_or into malformed

-- the kind of the characters that an array holds
abbrev pub character_kind : SourceType → Kind
character_kind (integer k) = k
character_kind (array t n) = character_kind t
character_kind (const t) = character_kind t
character_kind t = Char

-- the bytes of a literal in an array of characters of this kind, each converted to it (8.4.2)
abbrev pub write_bytes : Kind → Place → ℕ → List ℕ → Act (Unit {0})
write_bytes k p i [] = done
write_bytes k p i (b ∷ rest) = first_value (inner (item i) p) (Number (converted k (pos b))) >> write_bytes k p (suc i) rest

-- the elements of an array or the data members of a class, in order
abbrev pub element_part : SourceType → ℕ → Part
element_part (array t n) i = item i
element_part (const t) i = element_part t i
element_part t i = field i

abbrev pub element_count : List Class → SourceType → ℕ
element_count classes (array t n) = n
element_count classes (const t) = element_count classes t
element_count classes t = length (fields_of classes (class_of t))

-- an object of class type that a list builds: no constructor is entered for it, and it is under construction until its members are built
abbrev pub begin_list : Place → Act (Unit {0})
begin_list p = object_changed p.object (set_life p.route (in_construction [] ([] ∷ [])))

abbrev pub end_list : Place → Act (Unit {0})
end_list p = object_changed p.object (set_life p.route alive)

abbrev pub count : Cores → ℕ
count none = 0
count (more e rest) = suc (count rest)

-- Whether an element of this type is built or copied by a function, as this initialiser builds it: it costs a tick.
abbrev mutual
  pub costs_tick : Core → List Class → SourceType → Bool
  costs_tick (build name t args) classes u = true
  costs_tick (copy t e es) classes u = has_copy classes t
  costs_tick (each e) classes u = costs_tick e classes (element (plain u))
  costs_tick (list es rest) classes u =
      is_array u && (any_costs es classes (element (plain u)) || (nat_lt (count es) (bound u) && costs_tick rest classes (element (plain u))))
  costs_tick e classes u = false

  pub any_costs : Cores → List Class → SourceType → Bool
  any_costs none classes u = false
  any_costs (more e es) classes u = costs_tick e classes u || any_costs es classes u

abbrev pub one_tick : Bool → Act (Unit {0})
one_tick b = when b tick done

-- how many elements `new` makes; a negative number is none (5.3.3)
abbrev pub count_of : Value → Act ℕ
count_of (Number (pos n)) = gives n
count_of (Number (negsuc n)) = undefined outside_array
count_of v = malformed

-- `new`: the charge is the size and 8 more; where the heap limit is passed the pointer is null and nothing is built (5.3.3)
abbrev pub new_storage : Program → Bool → SourceType → (ℕ → Act Value) → Act Value
new_storage P many t go = do
  let charge = size P.classes t + 8
  fits ← take_heap charge
  when fits (born (new_object t (free_store many charge)) >>= go) (gives Null)

-- a call through a pointer, to a member function on an object; null is called after the arguments are there (5.2.2, 5.5)
abbrev pub run_target : Again → Program → Target → Place → List ℕ → Option Place → Act Value
run_target again P (direct f) p os into = run_named again P f os (Some p) into
run_target again P (dispatched signature) p os into =
    dispatch P.classes p signature >>= (λ f. run_named again P f.name os (Some f.this) into)

abbrev pub run_pointer : Again → Program → Option Place → Value → List ℕ → Option Place → Act Value
run_pointer again P p (Code f) os into = run_named again P f os p into
run_pointer again P (Some p) (FunctionMember path t) os into =
    name_subobject P.classes p >> run_target again P t (record p { route = along path p.route }) os into
run_pointer again P p Null os into = undefined null_used
run_pointer again P p v os into = malformed
