-- How the run of a whole program goes on.
use Rattle.std.specs.Prelude.{◌≡◌, ◌<◌, ℕ, ◌+◌, ◌-◌, ◌^◌, min, Bool, true, false, List, [], ◌∷◌, ◌++◌, IsTrue, Option, Some, None, Result, Ok, Err}
use Rattle.cf_base.specs.declared.memory.Failed.{Failed}
use Rattle.cf_base.specs.Rose.{Rose}
use Rattle.cf_base.specs.Stream.{Stream, AddsFront}
use Rattle.cf_base.specs.Event.{Event, in_bytes, out_bytes}
use Rattle.cf_core.specs.FromTypes.{Tables}
use Rattle.cf_core.specs.Store.{Value}
use Rattle.cf_core.specs.Calls as calls
use Rattle.cf_run_tree.specs.declared.program.Program.{Program}
use Rattle.cf_core_run.specs.declared.state.Machine.{Machine}
use Rattle.cf_core_run.specs.declared.state.RunEnd.{RunEnd}
use Rattle.cf_core_run.specs.declared.state.RunEnd.TheVariants as run_ending
use Rattle.cf_core_run.specs.Whole.{Around}
use Rattle.cf_core_run.specs.Nearer.{Below, steps_left}
use Rattle.cf_core_drive.specs.declared.types.Driven.{Driven}
use Rattle.cf_core_drive.specs.declared.types.End.{End}
use Rattle.cf_core_drive.specs.declared.types.End.TheVariants as end
use Rattle.cf_core_drive.specs.declared.types.Fault.{Fault}
use Rattle.cf_core_drive.specs.declared.types.Tally.{Tally}
use Rattle.cf_core_drive.specs.Run.{Streams, StillTold, SameCounts, Ahead, Meaning, LeavesAt, LeavesBy, Fails, ahead_of, entered_count}

-- how a run ends where a step ends it
abbrev pub run_end : RunEnd → End
run_end (run_ending.Ended status) = end.Ended status
run_end run_ending.Ticks = end.Ticks
run_end run_ending.Depth = end.Depth

abbrev pub given_byte : Option ℕ → Value
given_byte byte = calls.byte_value byte

-- The run has carried out these events, and what lies ahead is the run of a state. Nothing is left of the input where its end was met.
pub record Going (ahead : Ahead) (means : Meaning) (now : Machine) (old new : Streams) (tally : Tally) : Type 0 where
  pub events : List Event
  pub same : (rest : List ℕ) → (IsTrue tally.at_end → rest ≡ []) → means (in_bytes events ++ rest) ≡ ahead now rest events
  pub held : IsTrue old.input.told → old.input.bytes ≡ in_bytes events ++ new.input.bytes
  pub none_left : IsTrue tally.at_end → IsTrue old.input.told → new.input.bytes ≡ []
  pub put : IsTrue new.out.told → new.out.bytes ≡ old.out.bytes ++ out_bytes events
  pub told : StillTold old new
  pub counts : SameCounts old new
  pub counted : tally.entered ≡ entered_count events

-- what a turn comes to, where a run has gone so far
abbrev pub TurnsTo : Ahead → Meaning → Streams → Machine → Streams → Tally → Result (Option End) Fault → Type 0
TurnsTo ahead means old now new tally (Ok None) = Going ahead means now old new tally
TurnsTo ahead means old now new tally (Ok (Some e)) = LeavesAt ahead means old new tally.entered e
TurnsTo ahead means old now new tally (Err f) = Fails ahead means old new f

abbrev pub Turns : Program → Machine → Machine → Streams → Streams → Tally → Tally → Result (Option End) Fault → Type 0
Turns p before now a b t u result =
    (T : Tables) (around : Around) (means : Meaning) (old : Streams) → Going (ahead_of T p around) means before old a t
    → TurnsTo (ahead_of T p around) means old now b u result

-- the turn gets nearer to the end of the run, where the run goes on
abbrev pub Nears : Program → Machine → Machine → Result (Option End) Fault → Type 0
Nears p old new (Ok None) = Below p old.ticks (steps_left p old) new
Nears p old new (Ok (Some e)) = Unit {0}
Nears p old new (Err f) = Unit {0}

-- a tick was spent, or the run has ended
abbrev pub Spends : Machine → Machine → Result (Option End) Fault → Type 0
Spends old new (Ok None) = new.ticks < old.ticks
Spends old new (Ok (Some e)) = Unit {0}
Spends old new (Err f) = Unit {0}

-- turns were done, and no tick was spent
pub record Turning (p : Program) (first now : Machine) (a b : Streams) (t u : Tally) : Type 0 where
  pub turns : Turns p first now a b t u (Ok None)
  pub ticks : now.ticks ≡ first.ticks

-- a whole run from a state
abbrev pub Goes : Program → Machine → Streams → Streams → Result Driven Fault → Type 0
Goes p first old new result =
    (T : Tables) (around : Around) (means : Meaning) → ((input : List ℕ) → means input ≡ ahead_of T p around first input [])
    → LeavesBy (ahead_of T p around) means old new result

-- a function that was entered counts
pub record Counts (t u : Tally) : Type 0 where
  pub entered : u.entered ≡ min (t.entered + 1) (2 ^ 64 - 1)
  pub at_end : u.at_end ≡ t.at_end

-- a byte was put, or was not
pub record PutByte (byte : ℕ) (a b : Stream) : Type 0 where
  pub told : IsTrue b.told → IsTrue a.told
  pub bytes : IsTrue b.told → b.bytes ≡ a.bytes ++ byte ∷ []
  pub faults : b.faults ≡ a.faults

pub record PutNot (byte : ℕ) (a b : Stream) : Type 0 where
  pub told : IsTrue b.told → IsTrue a.told
  pub bytes : IsTrue b.told → AddsFront (byte ∷ []) a.bytes b.bytes
  pub rose : Rose a.faults b.faults

abbrev pub Puts : ℕ → Stream → Stream → Option End → Type 0
Puts byte a b None = PutByte byte a b
Puts byte a b (Some end.SinkFault) = PutNot byte a b
Puts byte a b (Some e) = ⊥

-- the next byte of an input was taken, or its end was met before or now
pub record Took (a b : Stream) (byte : ℕ) (before now : Bool) : Type 0 where
  pub unmet : before ≡ false
  pub still : now ≡ false
  pub bytes : IsTrue a.told → a.bytes ≡ byte ∷ b.bytes
  pub told : IsTrue a.told → IsTrue b.told
  pub faults : b.faults ≡ a.faults

pub record MetEnd (a b : Stream) (before now : Bool) : Type 0 where
  pub met : now ≡ true
  pub left : IsTrue before → b ≡ a
  pub none : before ≡ false → IsTrue a.told → (a.bytes ≡ []) × (b.bytes ≡ [])
  pub told : IsTrue a.told → IsTrue b.told
  pub faults : b.faults ≡ a.faults

pub record TookNot (a b : Stream) (before now : Bool) : Type 0 where
  pub unmet : before ≡ false
  pub still : now ≡ before
  pub bytes : IsTrue a.told → b.bytes ≡ a.bytes
  pub told : IsTrue a.told → IsTrue b.told
  pub rose : Rose a.faults b.faults

abbrev pub Answers : Stream → Stream → Bool → Bool → Result (Option ℕ) Failed → Type 0
Answers a b before now (Ok (Some byte)) = Took a b byte before now
Answers a b before now (Ok None) = MetEnd a b before now
Answers a b before now (Err failed) = TookNot a b before now
