-- Pointers into arrays: moving, subtracting and comparing them (5.7, 5.9, 5.10), and casts from `void*` and down (5.4).
use Rattle.std.specs.Prelude.{ℕ, zero, suc, ◌+◌, ◌-◌, Bool, true, false, ◌&&◌, ◌||◌, not, ◌==◌, nat_lt, nat_le, List, [], ◌∷◌, ℤ, pos, negsuc, ◌-ℤ◌, neg_ℤ, Option, Some, None, bytes_eq, reverse}
use Rattle.cf_core.specs.declared.operators.PointerOperator.{PointerOperator}
use Rattle.cf_core.specs.declared.operators.PointerOperator.TheVariants as op
use Rattle.cf_core.specs.Types.{Name, SourceType, same_but_const}
use Rattle.cf_core.specs.Classes.{Class}
use Rattle.cf_core.specs.Subobjects.{Path, path_eq}
use Rattle.cf_core.specs.Core.{item, past, field, within, Target, direct, dispatched}
use Rattle.cf_core.specs.Places.{Route, Place, route_eq, place_eq, is_beyond, type_at, is_inside, bound, without, class_of}
use Rattle.cf_core.specs.Store.{Value, Number, Null, At, Code, DataMember, FunctionMember, is_dead}
use Rattle.cf_core.specs.Run.{State, Act, ◌>>=◌, ◌>>◌, gives, malformed, undefined, state, need, some_or, null_used, not_alive, outside_array, cast_down, cast_from_void, compared}
use Rattle.cf_core.specs.Access.{place_type, stands}

-- An element of an array: the array, and which element. An object that is none counts as the one element of an array, and `past` as its end;
-- a base part counts as one without an end.
pub record Element : Type 0 where
  pub array : Route
  pub index : ℕ
  pub is_lone : Bool

abbrev pub element_of : Route → Element
element_of [] = record { array = []; index = 0; is_lone = true }
element_of (item i ∷ π) = record { array = π; index = i; is_lone = false }
element_of (past ∷ π) = record { array = π; index = 1; is_lone = true }
element_of (field i ∷ π) = record { array = field i ∷ π; index = 0; is_lone = true }
element_of (within s ∷ π) = record { array = within s ∷ π; index = 0; is_lone = true }

abbrev pub lone_route : Route → ℕ → Route
lone_route π zero = π
lone_route π (suc i) = past ∷ π

abbrev pub route_of : Element → ℕ → Route
route_of e i = elim e.is_lone [ true ↦ lone_route e.array i | false ↦ item i ∷ e.array ]

-- A base part of an object is no array of its own: a pointer to it leaves its object with each step (5.7).
abbrev pub lone_bound : Route → ℕ
lone_bound (within s ∷ π) = 0
lone_bound π = 1

abbrev pub bound_of : List Class → SourceType → Element → ℕ
bound_of classes t e = elim e.is_lone [ true ↦ lone_bound e.array | false ↦ bound (type_at classes t e.array) ]

-- the number that is so many further, or none where it is negative
abbrev pub further : ℕ → ℤ → Option ℕ
further i (pos n) = Some (i + n)
further i (negsuc n) = elim (nat_le (suc n) i) [ true ↦ Some (i - suc n) | false ↦ None ]

-- an index from 0 to the bound
abbrev pub up_to : ℕ → Option ℕ → Act ℕ
up_to n None = undefined outside_array
up_to n (Some i) = need (nat_le i n) outside_array >> gives i

-- A pointer moved by a number of elements, within the array or to its end (5.7). Its elements may have been destroyed, as long as the array is there.
abbrev pub moved_place : List Class → Place → ℤ → Act Value
moved_place classes p z = do
  s ← state
  need (not (s.object p.object).is_gone) not_alive
  let e = element_of p.route
  i ← up_to (bound_of classes (s.object p.object).type e) (further e.index z)
  gives (At (record p { route = route_of e i }))

abbrev pub moved_value : List Class → Value → ℤ → Act Value
moved_value classes (At p) z = moved_place classes p z
moved_value classes Null z = undefined null_used
moved_value classes v z = malformed

-- a pointer and an integer, in either order
abbrev pub sum_of : List Class → Value → Value → Act Value
sum_of classes v (Number z) = moved_value classes v z
sum_of classes (Number z) w = moved_value classes w z
sum_of classes v w = malformed

abbrev pub moved_back : List Class → Value → Value → Act Value
moved_back classes v (Number z) = moved_value classes v (neg_ℤ z)
moved_back classes v w = malformed

abbrev pub same_array : Place → Place → Bool
same_array p q =
    (p.object == q.object)
    && same (element_of p.route) (element_of q.route)
  where
    same : Element → Element → Bool
    same e f = route_eq e.array f.array && bool_same e.is_lone f.is_lone
      where
        bool_same : Bool → Bool → Bool
        bool_same true b = b
        bool_same false b = not b

abbrev pub both_stand : List Class → State → Place → Place → Bool
both_stand classes s p q =
    not (is_dead classes (s.object p.object) p.route) && not (is_dead classes (s.object q.object) q.route)

abbrev pub truth_value : Bool → Value
truth_value true = Number (pos 1)
truth_value false = Number (pos 0)

-- whether the storage in which two places lie has not ended
abbrev pub both_there : State → Place → Place → Bool
both_there s p q = not (s.object p.object).is_gone && not (s.object q.object).is_gone

-- the number of elements from the second to the first
abbrev pub difference_of : Value → Value → Act Value
difference_of (At p) (At q) = do
  s ← state
  need (both_there s p q) not_alive
  need (same_array p q) outside_array
  gives (Number (pos (element_of p.route).index -ℤ pos (element_of q.route).index))
difference_of Null Null = undefined null_used
difference_of Null (At q) = undefined null_used
difference_of (At p) Null = undefined null_used
difference_of v w = malformed

-- the order of two elements of one array (5.9)
abbrev pub ordered : List Class → (ℕ → ℕ → Bool) → Value → Value → Act Value
ordered classes less (At p) (At q) = do
  s ← state
  need (both_stand classes s p q) compared
  need (same_array p q) compared
  gives (truth_value (less (element_of p.route).index (element_of q.route).index))
ordered classes less Null Null = undefined null_used
ordered classes less Null (At q) = undefined null_used
ordered classes less (At p) Null = undefined null_used
ordered classes less v w = malformed

-- whether a pointer is the end of its array
abbrev pub is_end : List Class → State → Place → Bool
is_end classes s p = not (is_inside classes (s.object p.object).type p.route)

-- whether the place lies in the array of which an element is given
abbrev pub in_array : Place → Place → Bool
in_array p end = (p.object == end.object) && is_beyond p.route (element_of end.route).array

-- The end of an array is compared with pointers into that array alone, not with another end, and two places of which one lies in the other with neither.
abbrev pub comparable : List Class → State → Place → Place → Bool
comparable classes s p q =
    place_eq p q || (not (is_end classes s p && is_end classes s q) && ends p q && ends q p && not (lies p q) && not (lies q p))
  where
    ends : Place → Place → Bool
    ends p q = not (is_end classes s p) || in_array q p

    lies : Place → Place → Bool
    lies p q = not (is_end classes s p) && (p.object == q.object) && is_beyond p.route q.route

abbrev pub target_eq : Target → Target → Bool
target_eq (direct f) (direct g) = bytes_eq f g
target_eq (dispatched f) (dispatched g) = bytes_eq f g
target_eq t u = false

-- what isn't null differs from null; a number is compared with a number alone
abbrev pub unlike_null : Value → Act Bool
unlike_null (At p) = gives false
unlike_null (Code f) = gives false
unlike_null (DataMember path i) = gives false
unlike_null (FunctionMember path t) = gives false
unlike_null v = malformed

-- whether two pointers are equal (5.10)
abbrev pub equal_values : List Class → Value → Value → Act Bool
equal_values classes (At p) (At q) = do
  s ← state
  need (both_stand classes s p q) compared
  need (comparable classes s p q) compared
  gives (place_eq p q)
equal_values classes Null Null = gives true
equal_values classes Null w = unlike_null w
equal_values classes v Null = unlike_null v
equal_values classes (Code f) (Code g) = gives (bytes_eq f g)
equal_values classes (DataMember path i) (DataMember route j) = gives (path_eq path route && (i == j))
equal_values classes v w = malformed

abbrev pub pointer_op : List Class → PointerOperator → Value → Value → Act Value
pointer_op classes op.Add v w = sum_of classes v w
pointer_op classes op.Subtract v w = moved_back classes v w
pointer_op classes op.Difference v w = difference_of v w
pointer_op classes op.Less v w = ordered classes nat_lt v w
pointer_op classes op.Greater v w = ordered classes (λ i j. nat_lt j i) v w
pointer_op classes op.LessEqual v w = ordered classes nat_le v w
pointer_op classes op.GreaterEqual v w = ordered classes (λ i j. nat_le j i) v w
pointer_op classes op.Equal v w = equal_values classes v w >>= (λ b. gives (truth_value b))
pointer_op classes op.NotEqual v w = equal_values classes v w >>= (λ b. gives (truth_value (not b)))

-- a cast from `void*` to a pointer to the type that the place has, otherwise than in const (5.4)
abbrev pub from_void_value : List Class → SourceType → Value → Act Value
from_void_value classes t Null = gives Null
from_void_value classes t (At p) = do
  s ← state
  need (same_but_const (place_type classes s p) t) cast_from_void
  gives (At p)
from_void_value classes t v = malformed

-- a cast down to the class whose base at the path the place is
abbrev pub down_value : List Class → Name → Path → Value → Act Value
down_value classes c path Null = gives Null
down_value classes c path (At p) = do
  stands p
  s ← state
  π ← some_or (without (reverse path) p.route) (undefined cast_down)
  need (bytes_eq (class_of (type_at classes (s.object p.object).type π)) c) cast_down
  gives (At (record p { route = π }))
down_value classes c path v = malformed
