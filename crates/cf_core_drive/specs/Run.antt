-- What the run of a core leaves on its input and its output.
use Rattle.std.specs.Prelude.{◌≡◌, ℕ, ◌-◌, ◌^◌, min, List, ◌++◌, IsTrue, Option, Some, None, Result, Ok, Err}
use Rattle.cf_base.specs.Rose.{Rose}
use Rattle.cf_base.specs.Stream.{Stream}
use Rattle.cf_base.specs.Event.{Event, End as EndOf, Ended, Ticks, Depth, Undefined, in_bytes, out_bytes, entered}
use Rattle.cf_base.specs.World.{Outcome}
use Rattle.cf_core.specs.FromTypes.{Tables}
use Rattle.cf_core.specs.Program.{Mean}
use Rattle.cf_run_tree.specs.declared.program.Program.{Program}
use Rattle.cf_run_tree.specs.Tree.{program_of}
use Rattle.cf_core_run.specs.declared.state.Limits.{Limits}
use Rattle.cf_core_run.specs.declared.state.Machine.{Machine}
use Rattle.cf_core_run.specs.Going.{total}
use Rattle.cf_core_run.specs.Whole.{Around}
use Rattle.cf_core_drive.specs.declared.types.Driven.{Driven}
use Rattle.cf_core_drive.specs.declared.types.End.{End}
use Rattle.cf_core_drive.specs.declared.types.End.TheVariants as ended
use Rattle.cf_core_drive.specs.declared.types.Fault.{Fault}
use Rattle.cf_core_drive.specs.declared.types.Fault.TheVariants as fault

-- the streams of a run
pub record Streams : Type 0 where
  pub input : Stream
  pub out : Stream

abbrev pub streams : Stream → Stream → Streams
streams input out = record { input = input; out = out }

-- A source that told its bytes still tells them, and a sink that tells its bytes told them before.
pub record StillTold (old new : Streams) : Type 0 where
  pub input : IsTrue old.input.told → IsTrue new.input.told
  pub out : IsTrue new.out.told → IsTrue old.out.told

-- These events were carried out: their bytes were taken from the input and put on the output. `input` is what the input held.
pub record Carried (events : List Event) (input : List ℕ) (old new : Streams) : Type 0 where
  pub held : IsTrue old.input.told → old.input.bytes ≡ input
  pub taken : IsTrue old.input.told → input ≡ in_bytes events ++ new.input.bytes
  pub put : IsTrue new.out.told → new.out.bytes ≡ old.out.bytes ++ out_bytes events
  pub told : StillTold old new

-- how many functions these events enter, as a number of 64 bits that stays at its greatest
abbrev pub entered_count : List Event → ℕ
entered_count events = min (entered events) (2 ^ 64 - 1)

-- no call on these streams failed
pub record SameCounts (old new : Streams) : Type 0 where
  pub input : new.input.faults ≡ old.input.faults
  pub out : new.out.faults ≡ old.out.faults

-- the outcome that lies ahead of a state of the run, with this input left and these events behind it
abbrev pub Ahead : Type 0
Ahead = Machine → List ℕ → List Event → Option Outcome

abbrev pub Meaning : Type 0
Meaning = List ℕ → Option Outcome

-- the run came to the end that is meant, with the trace that is meant and so many functions entered
pub record Whole (means : Meaning) (old new : Streams) (count : ℕ) (end : EndOf) : Type 0 where
  pub input : List ℕ
  pub trace : List Event
  pub is : means input ≡ Some (record { end = end; trace = trace })
  pub carried : Carried trace input old new
  pub counted : count ≡ entered_count trace
  pub counts : SameCounts old new

-- These events were carried out, and what is meant is what lies ahead of a state with the rest of the input and these events behind it.
pub record Front (ahead : Ahead) (means : Meaning) (old new : Streams) : Type 0 where
  pub input : List ℕ
  pub rest : List ℕ
  pub events : List Event
  pub state : Machine
  pub carried : Carried events input old new
  pub front : means input ≡ ahead state rest events

-- a call on the input failed, and none on the output
pub record InputFailed (ahead : Ahead) (means : Meaning) (old new : Streams) (count : ℕ) : Type 0 where
  pub front : Front ahead means old new
  pub counted : count ≡ entered_count front.events
  pub rose : Rose old.input.faults new.input.faults
  pub out : new.out.faults ≡ old.out.faults

-- a call on the output failed, and none on the input
pub record OutputFailed (ahead : Ahead) (means : Meaning) (old new : Streams) (count : ℕ) : Type 0 where
  pub front : Front ahead means old new
  pub counted : count ≡ entered_count front.events
  pub rose : Rose old.out.faults new.out.faults
  pub input : new.input.faults ≡ old.input.faults

-- the run was given up behind these events, and no call failed
pub record Broken (ahead : Ahead) (means : Meaning) (old new : Streams) : Type 0 where
  pub front : Front ahead means old new
  pub counts : SameCounts old new

-- and there is no meaning
pub record Meaningless (ahead : Ahead) (means : Meaning) (old new : Streams) : Type 0 where
  pub broken : Broken ahead means old new
  pub none : means broken.front.input ≡ None

abbrev pub LeavesAt : Ahead → Meaning → Streams → Streams → ℕ → End → Type 0
LeavesAt ahead means old new count (ended.Ended status) = Whole means old new count (Ended status)
LeavesAt ahead means old new count ended.Ticks = Whole means old new count Ticks
LeavesAt ahead means old new count ended.Depth = Whole means old new count Depth
LeavesAt ahead means old new count (ended.Undefined act) = Whole means old new count (Undefined act)
LeavesAt ahead means old new count ended.SourceFault = InputFailed ahead means old new count
LeavesAt ahead means old new count ended.SinkFault = OutputFailed ahead means old new count

abbrev pub Fails : Ahead → Meaning → Streams → Streams → Fault → Type 0
Fails ahead means old new fault.Malformed = Meaningless ahead means old new
Fails ahead means old new fault.Memory = Broken ahead means old new

abbrev pub LeavesBy : Ahead → Meaning → Streams → Streams → Result Driven Fault → Type 0
LeavesBy ahead means old new (Ok ran) = LeavesAt ahead means old new ran.entered ran.end
LeavesBy ahead means old new (Err f) = Fails ahead means old new f

-- what lies ahead of a state of this program's run
abbrev pub ahead_of : Tables → Program → Around → Ahead
ahead_of T p a m rest events = total T p m (record { input = rest; heap = a.heap; trace = events; bound = a.bound; depth = a.depth })

-- what the program means within these limits, for an input
abbrev pub meant : Tables → Program → Limits → ℕ → Meaning
meant T p limits heap input = Mean (program_of T p) input heap limits.depth limits.ticks

abbrev pub Leaves : Tables → Program → Limits → ℕ → Streams → Streams → Result Driven Fault → Type 0
Leaves T p limits heap old new result =
    LeavesBy (ahead_of T p (record { heap = heap; bound = limits.ticks; depth = limits.depth })) (meant T p limits heap) old new result
