-- How the run of a whole program goes.
use Rattle.std.specs.Prelude.{◌≡◌, ℕ, List, [], map, Option, Some, None, Result, Ok, Err}
use Rattle.cf_base.specs.Event.{End as EndOf, Ended, Ticks, Depth, Undefined}
use Rattle.cf_core.specs.FromTypes.{Tables}
use Rattle.cf_core.specs.Calls.{get}
use Rattle.cf_core.specs.Run.{gives}
use Rattle.cf_core.specs.Program.{Mean}
use Rattle.cf_run_tree.specs.declared.program.Program.{Program}
use Rattle.cf_run_tree.specs.Tree.{program_of}
use Rattle.cf_core_objects.specs.declared.answer.Stop.{Stop}
use Rattle.cf_core_objects.specs.declared.answer.Stop.TheVariants as stop
use Rattle.cf_core_objects.specs.declared.answer.Value.{Value as Given}
use Rattle.cf_core_run.specs.declared.state.End.{End}
use Rattle.cf_core_run.specs.declared.state.End.TheVariants as ending
use Rattle.cf_core_run.specs.declared.state.Limits.{Limits}
use Rattle.cf_core_run.specs.declared.state.Machine.{Machine}
use Rattle.cf_core_run.specs.declared.state.Ran.{Ran}
use Rattle.cf_core_run.specs.declared.state.Seen.{Seen}
use Rattle.cf_core_run.specs.Going.{Outside, total, from_value, event_of}
use Rattle.cf_core_objects.specs.Store.{value_of}

abbrev pub end_of : End → EndOf
end_of (ending.Ended status) = Ended status
end_of ending.Ticks = Ticks
end_of ending.Depth = Depth
end_of (ending.Undefined act) = Undefined act

-- the heap that is left, and the bound and depth that the run began with
pub record Around : Type 0 where
  pub heap : ℕ
  pub bound : ℕ
  pub depth : ℕ

-- the input that is left and the trace so far
abbrev pub outside : Seen → Around → Outside
outside s a = record { input = s.rest.now; heap = a.heap; trace = map event_of s.trace.items; bound = a.bound; depth = a.depth }

-- what the program means is what lies ahead of the first state
pub record Starts (p : Program) (limits : Limits) (m : Machine) : Type 0 where
  pub same : (T : Tables) (input : List ℕ) (heap : ℕ) → Mean (program_of T p) input heap limits.depth limits.ticks
      ≡ total T p m (record { input = input; heap = heap; trace = []; bound = limits.ticks; depth = limits.depth })

-- a byte was read, or the end of the input met
abbrev pub Reads : Seen → Seen → Result Given Stop → Type 0
Reads old new (Ok v) = (T : Tables) (p : Program) (m : Machine) (a : Around) → from_value T p m get (outside old a) ≡ from_value T p m (gives (value_of v)) (outside new a)
Reads old new (Err stop.Memory) = Unit {0}
Reads old new (Err stop.Malformed) = ⊥
Reads old new (Err (stop.Act n)) = ⊥

-- the rest of the run is the same, or it has ended so, or has no meaning
abbrev pub Turns : Program → Machine → Machine → Seen → Seen → Result (Option End) Stop → Type 0
Turns p old new s t (Ok None) = (T : Tables) (a : Around) → total T p old (outside s a) ≡ total T p new (outside t a)
Turns p old new s t (Ok (Some end)) = (T : Tables) (a : Around) → total T p old (outside s a) ≡ Some (record { end = end_of end; trace = map event_of t.trace.items })
Turns p old new s t (Err stop.Malformed) = (T : Tables) (a : Around) → total T p old (outside s a) ≡ None
Turns p old new s t (Err stop.Memory) = Unit {0}
Turns p old new s t (Err (stop.Act n)) = ⊥

-- a run has the end and the trace that the program means, or the program has no meaning
abbrev pub Runs : Program → Limits → List ℕ → Result Ran Stop → Type 0
Runs p limits input (Ok ran) = (T : Tables) (heap : ℕ) → Mean (program_of T p) input heap limits.depth limits.ticks
    ≡ Some (record { end = end_of ran.end; trace = map event_of ran.trace.items })
Runs p limits input (Err stop.Malformed) = (T : Tables) (heap : ℕ) → Mean (program_of T p) input heap limits.depth limits.ticks ≡ None
Runs p limits input (Err stop.Memory) = Unit {0}
Runs p limits input (Err (stop.Act n)) = ⊥

-- what lay ahead of the first state lies ahead of this one
pub record Goes (p : Program) (first : Machine) (begun : Seen) (m : Machine) (s : Seen) : Type 0 where
  pub same : (T : Tables) (a : Around) → total T p first (outside begun a) ≡ total T p m (outside s a)

-- the same, and no tick was spent since
pub record Turning (p : Program) (first : Machine) (begun : Seen) (m : Machine) (s : Seen) : Type 0 where
  pub goes : Goes p first begun m s
  pub ticks : m.ticks ≡ first.ticks
