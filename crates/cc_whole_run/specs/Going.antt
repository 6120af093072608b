-- How the run of a whole program goes on.
use Rattle.std.specs.Prelude.{◌≡◌, ℕ, suc, ◌<◌, List, [], ◌++◌, IsTrue, Option, Some, None, Result, Ok, Err, codes}
use Rattle.cf_base.specs.declared.memory.Memory.{Memory}
use Rattle.cf_base.specs.Event.{Event, in_bytes, out_bytes}
use Rattle.cf_base.specs.World.{Outcome}
use Rattle.cf_streams.specs.declared.tally.Tally.{Tally}
use Rattle.cf_streams.specs.Streams.{Streams, StillTold, entered_count, SameCounts}
use Rattle.cc_whole.specs.declared.unit.CProgram.{CProgram}
use Rattle.cc_whole.specs.declared.unit.CFunction.{CFunction}
use Rattle.cc_whole.specs.Plain.{function_of}
use Rattle.cc_whole_step.specs.declared.moment.Moment.{Moment}
use Rattle.cc_whole_mean.specs.Callee.{function_named}
use Rattle.cc_whole_step.specs.Running.{functions_in, Outside, total}
use Rattle.cc_whole_run.specs.declared.types.Limits.{Limits}
use Rattle.cc_whole_run.specs.declared.types.Ran.{Ran}
use Rattle.cc_whole_step.specs.declared.moment.End.{End as Ended}
use Rattle.cc_whole_step.specs.declared.moment.End.TheVariants as step_end
use Rattle.cc_whole_run.specs.declared.types.End.{End}
use Rattle.cc_whole_run.specs.declared.types.End.TheVariants as end
use Rattle.cc_whole_run.specs.Run.{Broken, LeavesAt, Leaves, meant}

-- what stands outside
abbrev pub outside : List ℕ → List Event → Outside
outside input trace = record { input = input; trace = trace }

-- The run has carried out these events, and what lies ahead is the run of a moment. Nothing is left of the input where its end was met.
pub record Going (means : List ℕ → Outcome) (n : ℕ) (now : Moment) (old new : Streams) (tally : Tally) : Type 0 where
  pub events : List Event
  pub same : (rest : List ℕ) → (IsTrue tally.at_end → rest ≡ []) → means (in_bytes events ++ rest) ≡ total n now (outside rest events)
  pub below : now.ticks < n
  pub held : IsTrue old.input.told → old.input.bytes ≡ in_bytes events ++ new.input.bytes
  pub none_left : IsTrue tally.at_end → IsTrue old.input.told → new.input.bytes ≡ []
  pub put : IsTrue new.out.told → new.out.bytes ≡ old.out.bytes ++ out_bytes events
  pub told : StillTold old new
  pub counts : SameCounts old new
  pub counted : tally.entered ≡ entered_count events

-- where the program's `main` is this function, the run from a moment on is the one that is meant
pub record Starts (program : CProgram) (main : CFunction) (limits : Limits) (moment : Moment) : Type 0 where
  pub same : function_named (functions_in program) (codes "main") ≡ Some (function_of main) → (input : List ℕ)
      → meant program limits input ≡ total (suc limits.ticks) moment (outside input [])
  pub below : moment.ticks < suc limits.ticks

-- a whole run from a moment
abbrev pub Goes : Moment → Streams → Streams → Result Ran Memory → Type 0
Goes moment old new result = (means : List ℕ → Outcome) (n : ℕ) → ((input : List ℕ) → means input ≡ total n moment (outside input [])) → moment.ticks < n → Leaves means old new result

-- how a run ends where a step ends it
abbrev pub run_end : Ended → End
run_end (step_end.Ended status) = end.Ended status
run_end step_end.Ticks = end.Ticks
run_end step_end.Depth = end.Depth

-- what a turn comes to, where a run has gone so far
abbrev pub TurnsTo : (List ℕ → Outcome) → ℕ → Streams → Moment → Streams → Tally → Result (Option End) Memory → Type 0
TurnsTo means n old now new tally (Ok None) = Going means n now old new tally
TurnsTo means n old now new tally (Ok (Some e)) = LeavesAt means old new tally.entered e
TurnsTo means n old now new tally (Err memory) = Broken means old new

abbrev pub Turns : Moment → Moment → Streams → Streams → Tally → Tally → Result (Option End) Memory → Type 0
Turns before now a b t u result =
    (means : List ℕ → Outcome) (n : ℕ) (old : Streams) → Going means n before old a t → TurnsTo means n old now b u result
