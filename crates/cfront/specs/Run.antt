-- How a run of a program answers.
use Rattle.std.specs.Prelude.{◌≡◌, ℕ, List, IsTrue, Result, Ok, Err}
use Rattle.cf_base.specs.Rose.{Rose}
use Rattle.cf_base.specs.Stream.{Stream, HandedOn}
use Rattle.cf_base.specs.World.{Outcome as Meant}
use Rattle.cf_streams.specs.Streams.{Streams, entered_count}
use Rattle.cc_whole.specs.declared.unit.CProgram.{CProgram}
use Rattle.cc_whole_run.specs.declared.types.End.{End}
use Rattle.cc_whole_run.specs.declared.types.End.TheVariants as ended
use Rattle.cc_whole_run.specs.declared.types.Limits.{Limits}
use Rattle.cc_whole_run.specs.Run.{Broken, Front, LeavesAt, meant}
use Rattle.cfront.specs.declared.outcome.Outcome.{Outcome}
use Rattle.cfront.specs.declared.outcome.Outcome.TheVariants as answer

-- the answer for each end of a run
abbrev pub outcome_of : End → Outcome
outcome_of (ended.Ended status) = answer.Ended status
outcome_of ended.Ticks = answer.Ticks
outcome_of ended.Depth = answer.Depth
outcome_of (ended.Undefined act) = answer.Undefined act
outcome_of ended.SourceFault = answer.SourceFault
outcome_of ended.SinkFault = answer.SinkFault

-- A run came to this end, and then its output was flushed.
pub record FlushedAt (means : List ℕ → Meant) (old new : Streams) (entered : ℕ) (end : End) : Type 0 where
  pub left : LeavesAt means old new entered end
  pub handed_on : IsTrue new.out.told → HandedOn new.out

-- A call on the output failed, in the run or behind it. A call on the input may have failed before.
pub record OutputFault (means : List ℕ → Meant) (old new : Streams) (entered : ℕ) : Type 0 where
  pub front : Front means old new
  pub counted : entered ≡ entered_count front.events
  pub rose : Rose old.out.faults new.out.faults

-- What a run in which so many functions were entered leaves on the streams, by its answer. The output is flushed behind the run, so that it may fail then too.
abbrev pub RunsTo : (List ℕ → Meant) → Streams → Streams → ℕ → Outcome → Type 0
RunsTo means old new entered (answer.Ended status) = FlushedAt means old new entered (ended.Ended status)
RunsTo means old new entered answer.Ticks = FlushedAt means old new entered ended.Ticks
RunsTo means old new entered answer.Depth = FlushedAt means old new entered ended.Depth
RunsTo means old new entered (answer.Undefined act) = FlushedAt means old new entered (ended.Undefined act)
RunsTo means old new entered answer.Usage = ⊥
RunsTo means old new entered (answer.Refused file rule at) = ⊥
RunsTo means old new entered (answer.LinkRefused rule name) = ⊥
RunsTo means old new entered (answer.Limit file limit) = ⊥
RunsTo means old new entered (answer.Frames product) = ⊥
RunsTo means old new entered answer.FileFault = ⊥
RunsTo means old new entered answer.SourceFault = FlushedAt means old new entered ended.SourceFault
RunsTo means old new entered answer.SinkFault = OutputFault means old new entered

pub record RanTo (program : CProgram) (limits : Limits) (old new : Streams) (outcome : Outcome) : Type 0 where
  pub entered : ℕ
  pub runs : RunsTo (meant program limits) old new entered outcome

abbrev pub RunLeaves : {M : Type 0} → CProgram → Limits → Streams → Streams → Result Outcome M → Type 0
RunLeaves program limits old new (Ok outcome) = RanTo program limits old new outcome
RunLeaves program limits old new (Err memory) = Broken (meant program limits) old new

-- the flush behind a run was done, and the run's answer stays
pub record FlushDone (before after : Outcome) (old new : Stream) : Type 0 where
  pub same : after ≡ before
  pub bytes : IsTrue new.told → new.bytes ≡ old.bytes
  pub told : IsTrue new.told → IsTrue old.told
  pub handed_on : IsTrue new.told → HandedOn new
  pub faults : new.faults ≡ old.faults

-- it failed, and the answer is that
pub record FlushFailed (after : Outcome) (old new : Stream) : Type 0 where
  pub fault : after ≡ answer.SinkFault
  pub bytes : IsTrue new.told → new.bytes ≡ old.bytes
  pub told : IsTrue new.told → IsTrue old.told
  pub rose : Rose old.faults new.faults
