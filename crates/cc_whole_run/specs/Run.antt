-- What a run of a program leaves on its input and its output.
use Rattle.std.specs.Prelude.{◌≡◌, ℕ, List, ◌∷◌, ◌++◌, Option, Result, Ok, Err}
use Rattle.cf_base.specs.declared.memory.Memory.{Memory}
use Rattle.cf_base.specs.Rose.{Rose}
use Rattle.cf_base.specs.Stream.{IsFront}
use Rattle.cf_base.specs.Event.{Event, In, End as EndOf, Ended, Ticks, Depth, Undefined}
use Rattle.cf_base.specs.World.{Outcome}
use Rattle.cf_streams.specs.Streams.{Streams, Carried, entered_count, SameCounts}
use Rattle.cc_whole.specs.declared.unit.CProgram.{CProgram}
use Rattle.cc_whole_memory.specs.Store.{act_number}
use Rattle.cc_whole_mean.specs.Start.{c_mean}
use Rattle.cc_whole_run.specs.declared.types.Limits.{Limits}
use Rattle.cc_whole_run.specs.declared.types.Ran.{Ran}
use Rattle.cc_whole_run.specs.declared.types.End.{End}
use Rattle.cc_whole_run.specs.declared.types.End.TheVariants as ended

-- the outcome that the program means within these limits, for an input
abbrev pub meant : CProgram → Limits → List ℕ → Outcome
meant program limits input = c_mean program input limits.heap limits.depth limits.ticks

-- the run came to the end that is meant, with so many functions entered
pub record Whole (means : List ℕ → Outcome) (old new : Streams) (count : ℕ) (end : EndOf) : Type 0 where
  pub input : List ℕ
  pub carried : Carried (means input).trace input old new
  pub ends : (means input).end ≡ end
  pub counted : count ≡ entered_count (means input).trace
  pub counts : SameCounts old new

-- a front of the events that are meant was carried out
pub record Front (means : List ℕ → Outcome) (old new : Streams) : Type 0 where
  pub input : List ℕ
  pub events : List Event
  pub carried : Carried events input old new
  pub front : IsFront events (means input).trace

-- behind the first of these events the second list goes on with one that takes from the input
pub record IsInNext (front whole : List Event) : Type 0 where
  pub byte : Option ℕ
  pub rest : List Event
  pub joined : whole ≡ front ++ In byte ∷ rest

-- a call on the input failed, where a byte of it was meant to be taken, and none on the output
pub record InputFailed (means : List ℕ → Outcome) (old new : Streams) (count : ℕ) : Type 0 where
  pub front : Front means old new
  pub next : IsInNext front.events (means front.input).trace
  pub counted : count ≡ entered_count front.events
  pub rose : Rose old.input.faults new.input.faults
  pub out : new.out.faults ≡ old.out.faults

-- a call on the output failed, and none on the input
pub record OutputFailed (means : List ℕ → Outcome) (old new : Streams) (count : ℕ) : Type 0 where
  pub front : Front means old new
  pub counted : count ≡ entered_count front.events
  pub rose : Rose old.out.faults new.out.faults
  pub input : new.input.faults ≡ old.input.faults

abbrev pub LeavesAt : (List ℕ → Outcome) → Streams → Streams → ℕ → End → Type 0
LeavesAt means old new count (ended.Ended status) = Whole means old new count (Ended status)
LeavesAt means old new count ended.Ticks = Whole means old new count Ticks
LeavesAt means old new count ended.Depth = Whole means old new count Depth
LeavesAt means old new count (ended.Undefined act) = Whole means old new count (Undefined (act_number act))
LeavesAt means old new count ended.SourceFault = InputFailed means old new count
LeavesAt means old new count ended.SinkFault = OutputFailed means old new count

-- a front of what is meant was carried out, and no call failed
pub record Broken (means : List ℕ → Outcome) (old new : Streams) : Type 0 where
  pub front : Front means old new
  pub counts : SameCounts old new

abbrev pub Leaves : (List ℕ → Outcome) → Streams → Streams → Result Ran Memory → Type 0
Leaves means old new (Ok ran) = LeavesAt means old new ran.entered ran.end
Leaves means old new (Err error) = Broken means old new
