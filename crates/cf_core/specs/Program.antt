-- The meaning of a program: its trace and end, from an input, a heap limit, a depth limit and a bound of ticks.
use Rattle.std.specs.Prelude.{ℕ, zero, suc, Bool, true, List, [], ◌∷◌, ℤ, pos, Option, Some, None, reverse, slice_get, codes}
use Rattle.cf_base.specs.Event.{Ended, Ticks}
use Rattle.cf_base.specs.World.{World, Ran, Went, Stops, and_then, world_at, Outcome}
use Rattle.cf_core.specs.Types.{is_class, void, result}
use Rattle.cf_core.specs.Classes.{Class}
use Rattle.cf_core.specs.Core.{Role, constructor, destructor, Function, Static}
use Rattle.cf_core.specs.Places.{Place, path_in}
use Rattle.cf_core.specs.Store.{Value, Missing, Number, in_destruction, Object, zeroed_object, automatic, permanent, literal, free_store}
use Rattle.cf_core.specs.Run.{State, Frame, Did, Gives, Exits, Malformed, Act, ◌>>=◌, ◌>>◌, gives, malformed, undefined, state, done, for_all, frame_changed, gone, no_result}
use Rattle.cf_core.specs.Building.{building, is_whole, whole_life, sets_life, constructing, constructed, destroyed}
use Rattle.cf_core.specs.Calls.{Setting, Program, Flow, Falls, Task, body, turn, Again, frame_of, enter, run_named, root, destroy, end_object, destroy_parts, in_scope}
use Rattle.cf_core.specs.Statements.{does, initialises}

-- A constructor or destructor is entered: its part is the active one.
abbrev pub begins : List Class → Role → Option Place → Act (Unit {0})
begins classes (constructor c) (Some p) = state >>= (λ s. sets_life p (constructing (path_in p.route) (whole_life classes p s)))
begins classes (destructor c) (Some p) = sets_life p (in_destruction (path_in p.route))
begins classes role object = done

-- behind a destructor's body the parts of the object are destroyed, backwards in the list of building
abbrev pub unbuilds : Again → Program → Role → Option Place → Act (Unit {0})
unbuilds again P (destructor c) (Some p) = destroy_parts again P (building P.classes c (is_whole p)) p
unbuilds again P role object = done

-- it has ended, and the object was in this state before
abbrev pub ends : List Class → Role → Option Place → State → Act (Unit {0})
ends classes (constructor c) (Some p) before =
    state >>= (λ s. sets_life p (constructed (path_in p.route) (whole_life classes p before) (whole_life classes p s)))
ends classes (destructor c) (Some p) before = sets_life p (destroyed (path_in p.route) (whole_life classes p before))
ends classes role object before = done

-- a function of class type doesn't flow off its end (6.6.3)
abbrev pub ended_well : Bool → Flow → Act (Unit {0})
ended_well true Falls = undefined no_result
ended_well b flow = done

-- A body runs; then a destructor's object is taken apart, and the parameters are destroyed, the last first.
abbrev pub run_body : Again → Program → Function → List ℕ → Act Flow
run_body again P f args = do
  before ← state
  begins P.classes f.role before.frame.this
  flow ← in_scope again P (does again P f.body)
  ended_well (is_class (result f.type)) flow
  unbuilds again P f.role before.frame.this
  for_all (reverse args) (end_object again P)
  ends P.classes f.role before.frame.this before
  gives flow

abbrev pub perform : Again → Program → Task → Act Flow
perform again P (body f args) = run_body again P f args
perform again P (turn s) = does again P s

-- Each task begins behind a tick of its own, so as many levels as there are ticks are enough.
abbrev pub runs : Program → ℕ → Again
runs P zero task s w = Stops Ticks w.trace
runs P (suc n) task s w = perform (runs P n) P task s w

-- The whole run.

abbrev pub no_frame : ℕ → Frame
no_frame depth = frame_of [] 0 [] None None depth

abbrev pub static_object_of : List Class → Option Static → Object
static_object_of classes None = zeroed_object classes void
static_object_of classes (Some x) = zeroed_object classes x.type

abbrev pub length_of : List Static → ℕ
length_of [] = 0
length_of (x ∷ rest) = suc (length_of rest)

-- static storage is zeroed first (8.4)
abbrev pub first_state : Program → ℕ → State
first_state P depth = record {
  next = length_of P.statics;
  object = λ o. static_object_of P.classes (slice_get P.statics o);
  literals = [];
  reached = [];
  finished = [];
  frame = no_frame depth;
}

-- constant initialisers take effect without a function being entered (8.4)
abbrev pub set_constant : Again → Program → Setting → Act (Unit {0})
set_constant again P x = do
  frame_changed (λ g. record g { function = x.function })
  initialises again P x.object x.start

-- flow off the end of `main` gives status 0
abbrev pub status_of : Value → Act ℤ
status_of (Number z) = gives z
status_of Missing = gives (pos 0)
status_of v = malformed

-- Then come the other static objects, file by file, and then `main`; its return is `exit`.
abbrev pub main_run : Again → Program → Act ℤ
main_run again P = do
  for_all P.constants (set_constant again P)
  for_all P.initialisers (λ f. enter again f [] None None >> done)
  v ← run_named again P (codes "__main") [] None None
  status_of v

abbrev pub dropped : Object → Object
dropped x = elim x.storage [ automatic ↦ gone x | permanent ↦ x | literal ↦ x | free_store many n ↦ x ]

-- every entered function ends, its automatic objects with it and undestroyed
abbrev pub left : ℕ → State → State
left depth s = record s { object = λ o. dropped (s.object o); frame = no_frame depth }

abbrev pub destroy_static : Again → Program → ℕ → Act (Unit {0})
destroy_static again P o = state >>= (λ s. destroy again P (s.object o).type (root o))

-- a status that a further call of `exit` sets
abbrev pub resumed : ℕ → (ℤ → Act ℤ) → ℤ → Did (Unit {0}) → World → Ran (Did ℤ)
resumed depth go status (Gives u s) w = go status s w
resumed depth go status (Exits other s) w = go other (left depth s) w
resumed depth go status Malformed w = Went Malformed w

-- The static objects are destroyed, the last initialised first (3.4). Each has a destructor, which spends a tick.
abbrev pub destroy_statics : Again → Program → ℕ → ℕ → ℤ → Act ℤ
destroy_statics again P depth zero status s w = Stops Ticks w.trace
destroy_statics again P depth (suc n) status s w =
    elim s.finished [
      | [] ↦ Went (Gives status s) w
      | o ∷ rest ↦
          and_then (destroy_static again P o (record s { finished = rest }) w)
          (resumed depth (destroy_statics again P depth n) status)
    ]

abbrev pub ended_run : Again → Program → ℕ → ℕ → Did ℤ → World → Ran (Did ℤ)
ended_run again P depth n (Gives status s) w = destroy_statics again P depth n status (left depth s) w
ended_run again P depth n (Exits status s) w = destroy_statics again P depth n status (left depth s) w
ended_run again P depth n Malformed w = Went Malformed w

abbrev pub run_outcome : Ran (Did ℤ) → Option Outcome
run_outcome (Went (Gives status s) w) = Some (record { end = Ended status; trace = w.trace })
run_outcome (Went (Exits status s) w) = Some (record { end = Ended status; trace = w.trace })
run_outcome (Went Malformed w) = None
run_outcome (Stops end trace) = Some (record { end = end; trace = trace })

-- The trace and the end; none where the program isn't one that valid cores make.
abbrev pub Mean : Program → List ℕ → ℕ → ℕ → ℕ → Option Outcome
Mean P input heap depth n =
    run_outcome
    (and_then (main_run (runs P n) P (first_state P depth) (world_at n input heap))
    (ended_run (runs P n) P depth (suc n)))
