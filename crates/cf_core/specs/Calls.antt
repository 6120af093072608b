-- Entering functions, and destroying and copying objects by the functions of their classes (5.2.2, 12.4, 12.8).
use Rattle.std.specs.Prelude.{ℕ, ◌+◌, length, if◌then◌else◌, Bool, true, false, ◌&&◌, ◌||◌, not, List, [], ◌∷◌, pos, negsuc, Option, Some, None, find, slice_get, is_some, nat_eq, codes, bytes_eq}
use Rattle.std.specs.List.{list_all, range_with_len}
use Rattle.cf_base.specs.Event.{Enter, Out}
use Rattle.cf_base.specs.World.{Went, spend, deeper, show, next_byte}
use Rattle.cf_base.specs.Integers.{bits_of}
use Rattle.cf_core.specs.Types.{Name, SourceType, void, parameters, result, is_class, is_void, class, reference, array, const, same_but_const}
use Rattle.cf_core.specs.Classes.{Class, MemberFunction, Special, class_named, destructor_in, copy_in, assignment_in, declared}
use Rattle.cf_core.specs.Core.{Core, item, Function, Static}
use Rattle.cf_core.specs.Places.{Route, Place, inner, whole, class_of, route_eq}
use Rattle.cf_core.specs.Store.{Value, Nothing, Missing, Number, Null, At, Object, new_object, hold, is_settled, life_at, is_dead, Storage, automatic, free_store}
use Rattle.cf_core.specs.Run.{State, Frame, Gives, Act, ◌>>=◌, ◌>>◌, gives, malformed, exits, undefined, state, changed, done, tick, need, valid, some_or, when, for_each, for_each_back, for_all, object_changed, born, declared_object, gone, with_frame, frame_changed, lists_temporary, give_heap, not_alive, cast_from_void, wrong_delete, delete_through_base}
use Rattle.cf_core.specs.Access.{copy_first, copy_over}
use Rattle.cf_core.specs.Building.{BuiltPart, part_place, is_whole, whole_life}

-- A static object with a constant initialiser, and the function whose literals are meant in it.
pub record Setting : Type 0 where
  pub function : Name
  pub object : Name
  pub start : Core

-- a program: the files joined by link names
pub record Program : Type 0 where
  pub classes : List Class
  pub functions : List Function
  pub statics : List Static
  pub constants : List Setting  -- what sets the static objects with constant initialisers, file by file
  pub initialisers : List Function  -- of each file that has them, what initialises its static objects that need more, in order

-- how a statement ends
pub data Flow : Type 0 where
  Falls : Flow
  Breaks : Flow
  Continues : Flow
  Returns : Value → Flow

-- What runs with one tick less: a function's body, with the objects of its parameters, or the next turn of a loop.
pub data Task : Type 0 where
  body : Function → List ℕ → Task
  turn : Core → Task

abbrev pub Again : Type 0
Again = Task → Act Flow

abbrev pub function_named : Program → Name → Option Function
function_named P name = find (λ (f : Function). bytes_eq f.name name) P.functions

abbrev pub root : ℕ → Place
root o = record { object = o; route = [] }

-- The library's functions, which aren't entered.

abbrev pub is_library : Name → Bool
is_library name = bytes_eq name (codes "putchar") || bytes_eq name (codes "getchar") || bytes_eq name (codes "exit")

-- a byte modulo 256 is put, and its value given
abbrev pub put : Value → Act Value
put (Number z) = λ s w. Went (Gives (Number (pos (bits_of 8 z))) s) (show (Out (bits_of 8 z)) w)
put v = malformed

-- the next byte, or -1 at the end
abbrev pub byte_value : Option ℕ → Value
byte_value None = Number (negsuc 0)
byte_value (Some b) = Number (pos b)

abbrev pub get : Act Value
get = λ s w. next_byte w (λ b w. Went (Gives (byte_value b) s) w)

abbrev pub leave_with : Value → Act Value
leave_with (Number z) = exits z
leave_with v = malformed

abbrev pub argument : List ℕ → State → Option Value
argument [] s = None
argument (o ∷ rest) s = (s.object o).held []

abbrev pub run_library : Name → List ℕ → Act Value
run_library name args = do
  s ← state
  elim (bytes_eq name (codes "getchar")) [
    | true ↦ get
    | false ↦ some_or (argument args s) malformed >>= (λ v. when (bytes_eq name (codes "putchar")) (put v) (leave_with v))
  ]

-- behind it the storage of its parameters ends, as behind every function
abbrev pub call_library : Name → List ℕ → Act Value
call_library name args = run_library name args >>= (λ v. for_all args (λ o. object_changed o gone) >> gives v)

-- Functions of the program.

abbrev pub frame_of : Name → ℕ → List ℕ → Option Place → Option Place → ℕ → Frame
frame_of name count args this result depth = record {
  function = name;
  count = count;
  this = this;
  result = result;
  depth = depth;
  locals = λ i. slice_get args i;
  scope = [];
  temporaries = [];
}

-- how many parameters and locals a function has
abbrev pub local_count : Function → ℕ
local_count f = length (parameters f.type) + length f.locals

-- what a function of this result type gives where it ended without a value; the place of a class object was flowed past before (6.6.3)
abbrev pub without_value : SourceType → Value
without_value t = if is_void t then Nothing else Missing

abbrev pub given_value : SourceType → Value → Value
given_value t Nothing = without_value t
given_value t v = v

-- the value with which a body of a function of this result type ended
abbrev pub returned : SourceType → Flow → Act Value
returned t Falls = gives (without_value t)
returned t Breaks = malformed
returned t Continues = malformed
returned t (Returns v) = gives (given_value t v)

-- A function is entered: one tick is spent, then one level of depth, then it shows. The frame of its caller stands again afterwards.
abbrev pub enter : Again → Function → List ℕ → Option Place → Option Place → Act Value
enter again f args this into = λ s w.
    spend w (λ w. deeper s.frame.depth w (λ depth.
    (again (body f args) >>= (λ flow. changed (with_frame s.frame) >> returned (result f.type) flow))
    (with_frame (frame_of f.name (local_count f) args this into depth) s) (show (Enter f.name) w)))

-- It is entered on as many objects as it has parameters: no core of another kind comes from elaboration.
abbrev pub enter_found : Again → Option Function → List ℕ → Option Place → Option Place → Act Value
enter_found again None args this result = malformed
enter_found again (Some f) args this result = valid (nat_eq (length args) (length (parameters f.type))) >> enter again f args this result

-- the function of this name is run on the objects of its parameters, on an object, and with a place for its result
abbrev pub run_named : Again → Program → Name → List ℕ → Option Place → Option Place → Act Value
run_named again P name args this result =
    elim (is_library name) [ true ↦ call_library name args | false ↦ enter_found again (function_named P name) args this result ]

-- A name that a file declares with another type than its definition has, otherwise than in const, is used as if cast from `void*`.
abbrev pub has_type : Option Function → SourceType → Act (Unit {0})
has_type None t = malformed
has_type (Some f) t = need (same_but_const f.type t) cast_from_void

abbrev pub name_function : Program → Name → SourceType → Act (Unit {0})
name_function P name t = when (is_library name) done (has_type (function_named P name) t)

-- Destruction.

abbrev pub has_destructor : List Class → SourceType → Bool
has_destructor classes (class c) = is_some (destructor_in (class_named classes c))
has_destructor classes (array t n) = has_destructor classes t
has_destructor classes (const t) = has_destructor classes t
has_destructor classes t = false

-- only what is alive is destroyed
abbrev pub may_destroy : List Class → Place → Act (Unit {0})
may_destroy classes p = do
  s ← state
  need (not (is_whole p) || (not (is_dead classes (s.object p.object) p.route) && is_settled (whole_life classes p s))) not_alive

abbrev pub by_destructor : Again → Program → Option Name → Place → Act (Unit {0})
by_destructor again P None p = done
by_destructor again P (Some f) p = may_destroy P.classes p >> run_named again P f [] (Some p) None >> done

-- An object is destroyed: the elements of an array from the last, one tick each (12.4).
abbrev pub destroy : Again → Program → SourceType → Place → Act (Unit {0})
destroy again P (class c) p = by_destructor again P (destructor_in (class_named P.classes c)) p
destroy again P (array t n) p =
    when (has_destructor P.classes t) (for_each_back n (λ i. tick >> destroy again P t (inner (item i) p))) done
destroy again P (const t) p = destroy again P t p
destroy again P t p = done

-- an automatic object or a temporary is destroyed, and its storage ends
abbrev pub end_object : Again → Program → ℕ → Act (Unit {0})
end_object again P o = do
  s ← state
  destroy again P (s.object o).type (root o)
  object_changed o gone

-- the parts of an object from the last built, after the body of its destructor
abbrev pub destroy_parts : Again → Program → List BuiltPart → Place → Act (Unit {0})
destroy_parts again P [] p = done
destroy_parts again P (x ∷ rest) p = destroy_parts again P rest p >> destroy again P x.type (part_place x.part p)

-- Temporaries are destroyed at the end of their full expression, the last first (12.2).
abbrev pub full_expression : {A : Type 0} → Again → Program → Act A → Act A
full_expression again P act = do
  s ← state
  frame_changed (λ f. record f { temporaries = [] })
  v ← act
  t ← state
  for_all t.frame.temporaries (end_object again P)
  frame_changed (λ f. record f { temporaries = s.frame.temporaries })
  gives v

-- The objects declared in a scope are destroyed when it is left by any means, the last first (6.6).
abbrev pub in_scope : Again → Program → Act Flow → Act Flow
in_scope again P act = do
  s ← state
  frame_changed (λ f. record f { scope = [] })
  flow ← act
  t ← state
  for_all t.frame.scope (end_object again P)
  frame_changed (λ f. record f { scope = s.frame.scope })
  gives flow

-- a static object is to be destroyed at the end of the run
abbrev pub finish_static : Program → SourceType → ℕ → Act (Unit {0})
finish_static P t o = when (has_destructor P.classes t) (changed (λ s. record s { finished = o ∷ s.finished })) done

-- Copies.

abbrev pub has_copy : List Class → SourceType → Bool
has_copy classes (class c) = is_some (copy_in (class_named classes c))
has_copy classes (array t n) = has_copy classes t
has_copy classes (const t) = has_copy classes t
has_copy classes t = false

abbrev pub has_assignment : List Class → SourceType → Bool
has_assignment classes (class c) = is_some (assignment_in (class_named classes c))
has_assignment classes (array t n) = has_assignment classes t
has_assignment classes (const t) = has_assignment classes t
has_assignment classes t = false

-- the objects of further parameters of these types
abbrev pub Further : Type 0
Further = List SourceType → Act (List ℕ)

abbrev pub behind_first : List SourceType → List SourceType
behind_first [] = []
behind_first (t ∷ ts) = ts

-- the reference that a copy constructor or an assignment takes
abbrev pub reference_to : SourceType → Place → Object
reference_to t p = hold [] (Some (At p)) (new_object (reference t) automatic)

-- a copy constructor takes a reference to the other object, and its further parameters are built by their default arguments (8.2.6)
abbrev pub copy_by : Again → Program → Further → Option Special → SourceType → Place → Place → Act (Unit {0})
copy_by again P further None t from to = copy_first P.classes from to
copy_by again P further (Some f) t from to = do
  o ← born (reference_to t from)
  os ← further (behind_first (parameters f.type))
  run_named again P f.name (o ∷ os) (Some to) None
  done

-- A place is built as a copy of another: by the class's copy constructor or memberwise; elements in order, each a full expression and
-- a tick where a function copies them.
abbrev pub copy_to : Again → Program → Further → SourceType → Place → Place → Act (Unit {0})
copy_to again P further (class c) from to = copy_by again P further (copy_in (class_named P.classes c)) (class c) from to
copy_to again P further (array t n) from to =
    when (has_copy P.classes t)
    (for_each 0 n (λ i. tick >> full_expression again P (copy_to again P further t (inner (item i) from) (inner (item i) to))))
    (copy_first P.classes from to)
copy_to again P further (const t) from to = copy_to again P further t from to
copy_to again P further t from to = copy_first P.classes from to

abbrev pub first_of : List SourceType → SourceType
first_of [] = void
first_of (t ∷ ts) = t

-- whether an assignment takes an object and not a reference; a copy is built for it
abbrev pub takes_object : Special → Bool
takes_object f = is_class (first_of (parameters f.type))

-- the parameter of an assignment: a reference, or an object that is built as a copy
abbrev pub assigned_from : Again → Program → Further → Bool → SourceType → Place → Act ℕ
assigned_from again P further true t from = do
  o ← declared_object t
  copy_to again P further t from (root o)
  gives o
assigned_from again P further false t from = born (reference_to t from)

-- An assignment whose result is a class object gives a temporary, which nothing uses (12.2).
abbrev pub run_assignment : Again → Program → Name → List ℕ → Place → SourceType → Act (Unit {0})
run_assignment again P f args to t =
    when (is_class t) (do
      o ← declared_object t
      run_named again P f args (Some to) (Some (root o))
      frame_changed (lists_temporary o))
    (run_named again P f args (Some to) None >> done)

abbrev pub assign_by : Again → Program → Further → Option Special → SourceType → Place → Place → Act (Unit {0})
assign_by again P further None t from to = copy_over P.classes from to
assign_by again P further (Some f) t from to = do
  o ← assigned_from again P further (takes_object f) t from
  run_assignment again P f.name (o ∷ []) to (result f.type)

-- A place is assigned from another, by the class's assignment or memberwise; elements in order, each a full expression where a function
-- assigns them.
abbrev pub assign_to : Again → Program → Further → SourceType → Place → Place → Act (Unit {0})
assign_to again P further (class c) from to = assign_by again P further (assignment_in (class_named P.classes c)) (class c) from to
assign_to again P further (array t n) from to =
    when (has_assignment P.classes t)
    (for_each 0 n (λ i. full_expression again P (assign_to again P further t (inner (item i) from) (inner (item i) to))))
    (copy_over P.classes from to)
assign_to again P further (const t) from to = assign_to again P further t from to
assign_to again P further t from to = copy_over P.classes from to

-- The free store (5.3.4).

abbrev pub destructor_signature : Name
destructor_signature = codes "__dt__Fv"

abbrev pub is_virtual_in : Option MemberFunction → Bool
is_virtual_in None = false
is_virtual_in (Some f) = f.is_virtual

-- whether the class of the pointer has a virtual destructor
abbrev pub has_virtual_destructor : List Class → SourceType → Bool
has_virtual_destructor classes t = is_virtual_in (declared classes (class_of t) destructor_signature)

-- the storage of a live object of the free store, by the form of `new` that made it
abbrev pub in_free_store : Object → Option (Bool × ℕ)
in_free_store x = elim x.is_gone [ true ↦ None | false ↦ charged x.storage ]
  where
    charged : Storage → Option (Bool × ℕ)
    charged (free_store many n) = Some (many, n)
    charged s = None

abbrev pub release : Again → Program → ℕ → ℕ → Act Value
release again P o charge = end_object again P o >> give_heap charge >> gives Nothing

-- whether the place is the start of what `new` or `new[]` gave, or a base part of that
abbrev pub is_start : Bool → Route → Bool
is_start true π = route_eq (whole π) (item 0 ∷ [])
is_start false π = route_eq (whole π) []

-- whether all objects that stand at a route are alive: of an array each element, since each has a life of its own
abbrev pub all_settled : List Class → Object → SourceType → Route → Bool
all_settled classes x (array t n) π = list_all (λ (i : ℕ). all_settled classes x t (item i ∷ π)) (range_with_len 0 n)
all_settled classes x (const t) π = all_settled classes x t π
all_settled classes x t π = is_settled (life_at classes x π)

-- An object of the free store is deleted in the form that fits how it was made. Through a base it goes where the destructor there is
-- virtual: then the destructor of the object's own class runs.
abbrev pub delete_at : Again → Program → Bool → SourceType → Place → Act Value
delete_at again P many t p = do
  s ← state
  let x = s.object p.object
  made ← some_or (in_free_store x) (undefined not_alive)
  need (is_start made.0 p.route) not_alive
  need (same made.0 many) wrong_delete
  need (is_whole p || (not many && has_virtual_destructor P.classes t)) delete_through_base
  need (all_settled P.classes x x.type []) not_alive
  release again P p.object made.1
  where
    same : Bool → Bool → Bool
    same true b = b
    same false b = not b

abbrev pub delete_value : Again → Program → Bool → SourceType → Value → Act Value
delete_value again P many t Null = gives Nothing
delete_value again P many t (At p) = delete_at again P many t p
delete_value again P many t v = malformed
