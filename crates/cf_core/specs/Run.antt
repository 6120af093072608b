-- A step of a run: it changes the objects and the world, and goes on with a value, or `exit` was called, or the run has ended.
use Rattle.std.specs.Prelude.{ℕ, zero, suc, ◌+◌, ◌-◌, Bool, true, false, ◌==◌, nat_le, if◌then◌else◌, List, [], ◌∷◌, ℤ, Option, Some, None, Result, Ok, Err}
use Rattle.cf_base.specs.Event.{Event, Undefined}
use Rattle.cf_base.specs.World.{World, Ran, Went, Stops, and_then, spend, show}
use Rattle.cf_core.specs.Types.{Name, SourceType}
use Rattle.cf_core.specs.Places.{Place}
use Rattle.cf_core.specs.Store.{Object, automatic, new_object}

-- The acts that have no meaning, by number; those on integers stand with the integers.
abbrev pub null_used : ℕ
null_used = 4

abbrev pub not_alive : ℕ
not_alive = 5

abbrev pub outside_array : ℕ
outside_array = 6

abbrev pub no_value : ℕ
no_value = 7

abbrev pub cast_down : ℕ
cast_down = 8

abbrev pub cast_from_void : ℕ
cast_from_void = 9

abbrev pub compared : ℕ
compared = 10

abbrev pub wrong_delete : ℕ
wrong_delete = 11

abbrev pub delete_through_base : ℕ
delete_through_base = 12

abbrev pub pure_call : ℕ
pure_call = 13

abbrev pub outside_active : ℕ
outside_active = 14

abbrev pub write_to_const : ℕ
write_to_const = 15

abbrev pub no_result : ℕ
no_result = 16

-- a function that was entered and hasn't ended
pub record Frame : Type 0 where
  pub function : Name
  pub count : ℕ  -- of its parameters and locals
  pub this : Option Place
  pub result : Option Place  -- where a result of class type is built
  pub depth : ℕ  -- how many more functions may be entered
  pub locals : ℕ → Option ℕ  -- the object of each parameter, and of each local whose declaration was reached
  pub scope : List ℕ  -- the objects declared in the innermost open scope, the newest first
  pub temporaries : List ℕ  -- of the full expression at hand, the newest first

-- the object of a string literal, by its number in a function
pub record Literal : Type 0 where
  pub function : Name
  pub number : ℕ
  pub object : ℕ

pub record State : Type 0 where
  pub next : ℕ  -- the number of the next object; none comes twice
  pub object : ℕ → Object
  pub literals : List Literal
  pub reached : List Name  -- the static objects whose initialiser control has reached
  pub finished : List ℕ  -- the static objects that are to be destroyed, the last initialised first
  pub frame : Frame

-- A step has given a value, or `exit` was called with a status, or the core is none that elaboration makes: a valid one never is.
pub data Did (A : Type 0) : Type 0 where
  Gives : A → State → Did A
  Exits : ℤ → State → Did A
  Malformed : Did A

abbrev pub Act : Type 0 → Type 0
Act A = State → World → Ran (Did A)

abbrev pub onward : {A B : Type 0} → Did A → (A → Act B) → World → Ran (Did B)
onward (Gives a s) go w = go a s w
onward (Exits status s) go w = Went (Exits status s) w
onward Malformed go w = Went Malformed w

-- the first act, and then what its value leads to
abbrev pub ◌>>=◌ : {A B : Type 0} → Act A → (A → Act B) → Act B
◌>>=◌ act go = λ s w. and_then (act s w) (λ did w. onward did go w)

abbrev pub ◌>>◌ : {A B : Type 0} → Act A → Act B → Act B
◌>>◌ act next = λ s w. and_then (act s w) (λ did w. onward did (λ _. next) w)

infixl 1 ◌>>=◌
infixl 1 ◌>>◌
abbrev pub gives : {A : Type 0} → A → Act A
gives a = λ s w. Went (Gives a s) w

abbrev pub malformed : {A : Type 0} → Act A
malformed = λ s w. Went Malformed w

abbrev pub exits : {A : Type 0} → ℤ → Act A
exits status = λ s w. Went (Exits status s) w

-- the run ends in this act
abbrev pub undefined : {A : Type 0} → ℕ → Act A
undefined act = λ s w. Stops (Undefined act) w.trace

abbrev pub state : Act State
state = λ s w. Went (Gives s s) w

abbrev pub changed : (State → State) → Act (Unit {0})
changed f = λ s w. Went (Gives tt (f s)) w

abbrev pub done : Act (Unit {0})
done = gives tt

-- one tick is spent, before what follows
abbrev pub tick : Act (Unit {0})
tick = λ s w. spend w (λ w. Went (Gives tt s) w)

abbrev pub shows : Event → Act (Unit {0})
shows event = λ s w. Went (Gives tt s) (show event w)

-- where the test fails, the run ends in this act
abbrev pub need : Bool → ℕ → Act (Unit {0})
need true act = done
need false act = undefined act

-- where the test fails, the core is none that elaboration makes
abbrev pub valid : Bool → Act (Unit {0})
valid true = done
valid false = malformed

abbrev pub some_or : {A : Type 0} → Option A → Act A → Act A
some_or None act = act
some_or (Some a) act = gives a

abbrev pub ok_or_act : {A : Type 0} → Result A ℕ → Act A
ok_or_act (Ok a) = gives a
ok_or_act (Err act) = undefined act

-- one act or the other
abbrev pub when : {A : Type 0} → Bool → Act A → Act A → Act A
when true first second = first
when false first second = second

-- the act for each number below a count, in order, and from the last on
abbrev pub for_each : ℕ → ℕ → (ℕ → Act (Unit {0})) → Act (Unit {0})
for_each i zero act = done
for_each i (suc n) act = act i >> for_each (suc i) n act

abbrev pub for_each_back : ℕ → (ℕ → Act (Unit {0})) → Act (Unit {0})
for_each_back zero act = done
for_each_back (suc n) act = act n >> for_each_back n act

abbrev pub for_all : {A : Type 0} → List A → (A → Act (Unit {0})) → Act (Unit {0})
for_all [] act = done
for_all (a ∷ rest) act = act a >> for_all rest act

-- Objects and the frame.

abbrev pub upd : {A : Type 0} → ℕ → A → (ℕ → A) → ℕ → A
upd i a f j = if j == i then a else f j

abbrev pub with_object : ℕ → (Object → Object) → State → State
with_object o f s = record s { object = upd o (f (s.object o)) s.object }

abbrev pub object_changed : ℕ → (Object → Object) → Act (Unit {0})
object_changed o f = changed (with_object o f)

-- a new object, in the storage of a function or elsewhere
abbrev pub born : Object → Act ℕ
born x = λ s w. Went (Gives s.next (record s { next = suc s.next; object = upd s.next x s.object })) w

abbrev pub declared_object : SourceType → Act ℕ
declared_object t = born (new_object t automatic)

abbrev pub gone : Object → Object
gone x = record x { is_gone = true }

abbrev pub with_frame : Frame → State → State
with_frame f s = record s { frame = f }

abbrev pub frame_changed : (Frame → Frame) → Act (Unit {0})
frame_changed f = changed (λ s. record s { frame = f s.frame })

abbrev pub lists_local : ℕ → ℕ → Frame → Frame
lists_local i o f = record f { locals = upd i (Some o) f.locals }

abbrev pub lists_in_scope : ℕ → Frame → Frame
lists_in_scope o f = record f { scope = o ∷ f.scope }

abbrev pub lists_temporary : ℕ → Frame → Frame
lists_temporary o f = record f { temporaries = o ∷ f.temporaries }

-- Charges of the free store: bytes are taken where so many are left, and given back.
abbrev pub take_heap : ℕ → Act Bool
take_heap n = λ s w. Went (Gives (nat_le n w.heap) s) (if nat_le n w.heap then record w { heap = w.heap - n } else w)

abbrev pub give_heap : ℕ → Act (Unit {0})
give_heap n = λ s w. Went (Gives tt s) (record w { heap = w.heap + n })
