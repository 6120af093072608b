-- From what the steps of a job leave to the cause of its answer.
use Rattle.std.proofs.Common.{◌≡◌, ◌∙◌, ℕ, List, refl, sym, ap, IsTrue, Bool, true, false, inl, inr, Result, Ok, Err}
use Rattle.cf_base.specs.Disk.{Disk, SameElsewhere}
use Rattle.cf_base.specs.Stream.{Stream}
use Rattle.cc_whole.specs.declared.unit.CProgram.{CProgram}
use Rattle.cc_whole_run.specs.declared.types.Limits.{Limits}
use Rattle.cc_whole_run.specs.Run.{meant}
use Rattle.cf_streams.specs.Streams.{streams, StillTold, SameCounts}
use Rattle.cf_core.specs.FromUnit.{Unit as CoreUnit}
use Rattle.cf_compile.specs.Takes.{Takes, frame_bound}
use Rattle.cf_compile.specs.declared.compiled.Compiled.{Compiled}
use Rattle.cfront.specs.declared.translating.Program.{Program}
use Rattle.cfront.specs.declared.outcome.Outcome.{Outcome}
use Rattle.cfront.specs.declared.outcome.Outcome.TheVariants as answer
use Rattle.cfront.specs.declared.position.Position.{Position}
use Rattle.cfront.specs.declared.answer.Answer.{Answer}
use Rattle.cfront.specs.declared.answer.Stop.{Stop}
use Rattle.cfront.specs.declared.answer.Stop.TheVariants as stop
use Rattle.cfront.specs.Answer.{Causes, Answers, EndsWith, LineStands, LineFailed, is_fault, WordsCause, NoJob, GoJob}
use Rattle.cfront.specs.Cause.{FileCause, read_failed, too_long, limited, refused, write_failed, not_linked, past_static, Stopped, stopped, NotStarted, not_started, StartStops, passes_nodes, passes_frames, Ran, ran, GoCause, Begun, TextLeft, unwritten, text_stands, LeftByMemory}
use Rattle.cfront.specs.LastLine.{last_line}
use Rattle.cfront.specs.Outside.{Outside, outside, streams_of, CountsStand, StreamsStand, KeepTelling}
use Rattle.cfront.specs.Run.{RunsTo}
use Rattle.cfront.specs.Steps.{CompileLeaves, WriteLeaves, DiskStands, DiskTold, StopLeaves, NotWritten, MemoryLeft, MadeOf, StartedAs, StartedLeaves, BrokenOff, stays, runs, GoLeaves}
use Rattle.cfront.specs.Translated.{WasRead, DiskCountsStand, Made}
use Rattle.cfront.specs.Words.{text_name}

-- memory was wanting before anything was written
pub stands : (file : List ℕ) (old new : Disk) → DiskStands old new → MemoryLeft file old new
stands file old new d = record { text = unwritten (λ told. d.content); elsewhere = λ told other differs. rw d.content refl; counts = d.counts }

-- the file was read, and refused
pub compile_stops : (file bytes : List ℕ) (old new : Disk) (e : Stop) → WasRead file old bytes → DiskStands old new
    → CompileLeaves bytes (Err e) → StopLeaves file old new e
compile_stops file bytes old new (stop.Answer a) read d (inl at) = refused (record {
  bytes = bytes;
  read = read;
  refused = at;
  content = d.content;
  counts = d.counts;
})
compile_stops file bytes old new (stop.Answer a) read d (inr by) = limited (record {
  bytes = bytes;
  read = read;
  limited = by;
  content = d.content;
  counts = d.counts;
})
compile_stops file bytes old new stop.Memory read d at = stands file old new d

counts_after : (a b c : Disk) → DiskCountsStand a b → DiskCountsStand b c → DiskCountsStand a c
counts_after a b c first second = record { reads = second.reads ∙ first.reads; writes = second.writes ∙ first.writes }

-- the file was read and taken, and its text not written
pub write_stops : (file bytes text : List ℕ) (source : CoreUnit) (old mid new : Disk) (e : Stop) → WasRead file old bytes → DiskStands old mid
    → Takes bytes (Ok source) → WriteLeaves {T = Unit {0}} (text_name file) text mid new (Err e) → StopLeaves file old new e
write_stops file bytes text source old mid new (stop.Answer a) read d taken w = write_failed (record {
  bytes = bytes;
  read = read;
  source = source;
  taken = taken;
  rises = rw (← d.counts.writes) w.rises;
  answered = w.answered;
  elsewhere = λ told. rw (← d.content) (w.elsewhere (d.told told));
  reads = w.reads ∙ d.counts.reads;
})
write_stops file bytes text source old mid new stop.Memory read d taken w = record {
  text = unwritten (λ told. w.content (d.told told) ∙ d.content);
  elsewhere = λ told other differs. rw (w.content (d.told told), d.content) refl;
  counts = counts_after old mid new d.counts w.counts;
}

-- the causes of an answer of `go`
pub started_so : (file : List ℕ) (limits : Limits) (files files' : Disk) (input out input' out' err : Stream) (position : Position) (outcome : Outcome) (p : Program)
    → MadeOf file files files' p → StartedAs p limits (streams input out) (streams input' out') outcome
    → GoCause file limits (outside files input out err) (outside files' input' out' err) position outcome
started_so file limits files files' input out input' out' err position outcome p made (stays stops same) = not_started (record {
  program = p.program;
  made = made.made;
  stops = stops made.made.stands.translated.source made.frame;
  streams = record { input = ap (λ s. s.input) same; out = ap (λ s. s.out) same; err = refl };
})
started_so file limits files files' input out input' out' err position outcome p made (runs starts to) = ran (record {
  program = p.program;
  made = made.made;
  starts = starts made.made.stands.translated.source made.frame;
  runs = to;
  err = refl;
})

pub stopped_so : (file : List ℕ) (limits : Limits) (files files' : Disk) (input out err : Stream) (position : Position) (outcome : Outcome)
    → FileCause file files files' position outcome
    → GoCause file limits (outside files input out err) (outside files' input out err) position outcome
stopped_so file limits files files' input out err position outcome cause =
    stopped (record { cause = cause; streams = record { input = refl; out = refl; err = refl } })

module _ (file : List ℕ) (limits : Limits) (old new : Disk) (input out input' out' err : Stream) where
  all_counts : DiskCountsStand old new → SameCounts (streams input out) (streams input' out') → CountsStand (outside old input out err) (outside new input' out' err)
  all_counts d s = record { reads = d.reads; writes = d.writes; input = s.input; out = s.out; err = refl }

  -- memory was wanting in a run
  pub run_by_memory : (p : Program) → MadeOf file old new p → BrokenOff p limits (streams input out) (streams input' out')
      → LeftByMemory file limits (outside old input out err) (outside new input' out' err)
  run_by_memory p made left = record {
    text = text_stands made.made.unit made.made.stands.translated;
    elsewhere = made.made.stands.elsewhere;
    counts = all_counts made.made.stands.counts left.left.counts;
    streams = inr (record {
      program = p.program;
      made = made.made;
      starts = left.starts made.made.stands.translated.source made.frame;
      err = refl;
      front = left.left.front;
    });
  }

  -- before the run memory was wanting
  pub stopped_by_memory : MemoryLeft file old new → LeftByMemory file limits (outside old input out err) (outside new input out err)
  stopped_by_memory left = record {
    text = left.text;
    elsewhere = left.elsewhere;
    counts = record { reads = left.counts.reads; writes = left.counts.writes; input = refl; out = refl; err = refl };
    streams = inl (record { input = refl; out = refl; err = refl });
  }

-- what `go` leaves behind a program that was made
pub go_so : {M : Type 0} (file : List ℕ) (limits : Limits) (files files' : Disk) (input out input' out' err : Stream) (p : Program) (result : Result Answer M)
    → MadeOf file files files' p → StartedLeaves p limits (streams input out) (streams input' out') result
    → GoLeaves file limits (outside files input out err) (outside files' input' out' err) result
go_so file limits files files' input out input' out' err p (Ok a) made s = started_so file limits files files' input out input' out' err a.position a.outcome p made s
go_so file limits files files' input out input' out' err p (Err memory) made s = run_by_memory file limits files files' input out input' out' err p made s

pub fault_is : (outcome other : Outcome) → outcome ≡ other → is_fault outcome ≡ false → is_fault other ≡ false
fault_is outcome other same no_fault = rw (← same) no_fault

with_streams : (old new : Outside) → DiskCountsStand old.files new.files → StreamsStand old new → CountsStand old new
with_streams old new d s = record { reads = d.reads; writes = d.writes; input = ap (λ t. t.faults) s.input; out = ap (λ t. t.faults) s.out; err = ap (λ t. t.faults) s.err }

pub stop_counts : (file : List ℕ) (old new : Outside) (position : Position) (outcome : Outcome)
    → FileCause file old.files new.files position outcome → StreamsStand old new → is_fault outcome ≡ false → CountsStand old new
stop_counts file old new position outcome (read_failed r) s no_fault = let k : false ≡ true = sym (fault_is outcome answer.FileFault r.answered no_fault) in cc
stop_counts file old new position outcome (too_long r) s no_fault = with_streams old new r.counts s
stop_counts file old new position outcome (limited r) s no_fault = with_streams old new r.counts s
stop_counts file old new position outcome (refused r) s no_fault = with_streams old new r.counts s
stop_counts file old new position outcome (not_linked r) s no_fault = with_streams old new r.stands.counts s
stop_counts file old new position outcome (past_static r) s no_fault = with_streams old new r.stands.counts s
stop_counts file old new position outcome (write_failed r) s no_fault = let k : false ≡ true = sym (fault_is outcome answer.FileFault r.answered no_fault) in cc

module _ (program : CProgram) (limits : Limits) (old new : Outside) (disk : DiskCountsStand old.files new.files) (err : new.err ≡ old.err) where
  streams_counts : SameCounts (streams_of old) (streams_of new) → CountsStand old new
  streams_counts s = record { reads = disk.reads; writes = disk.writes; input = s.input; out = s.out; err = ap (λ t. t.faults) err }

  run_counts : (entered : ℕ) (outcome : Outcome) → RunsTo (meant program limits) (streams_of old) (streams_of new) entered outcome → is_fault outcome ≡ false → CountsStand old new
  run_counts entered (answer.Ended status) to no_fault = streams_counts to.left.counts
  run_counts entered answer.Ticks to no_fault = streams_counts to.left.counts
  run_counts entered answer.Depth to no_fault = streams_counts to.left.counts
  run_counts entered (answer.Undefined act) to no_fault = streams_counts to.left.counts
  run_counts entered answer.Usage to no_fault = absurd to
  run_counts entered (answer.Refused number rule at) to no_fault = absurd to
  run_counts entered (answer.LinkRefused rule name) to no_fault = absurd to
  run_counts entered (answer.Limit number limit) to no_fault = absurd to
  run_counts entered (answer.Frames product) to no_fault = absurd to
  run_counts entered answer.FileFault to no_fault = absurd to
  run_counts entered answer.SourceFault to no_fault = cc
  run_counts entered answer.SinkFault to no_fault = cc

pub go_counts : (file : List ℕ) (limits : Limits) (old new : Outside) (position : Position) (outcome : Outcome)
    → GoCause file limits old new position outcome → is_fault outcome ≡ false → CountsStand old new
go_counts file limits old new position outcome (stopped s) no_fault = stop_counts file old new position outcome s.cause s.streams no_fault
go_counts file limits old new position outcome (not_started n) no_fault = with_streams old new n.made.stands.counts n.streams
go_counts file limits old new position outcome (ran r) no_fault =
    run_counts r.program limits old new r.made.stands.counts r.err r.runs.entered outcome r.runs.runs no_fault

same_counts : (old new : Outside) → new ≡ old → CountsStand old new
same_counts old new same = rw same (record { reads = refl; writes = refl; input = refl; out = refl; err = refl })

pub words_counts : (words : List (List ℕ)) (limits : Limits) (old new : Outside) (position : Position) (outcome : Outcome)
    → WordsCause words limits old new position outcome → is_fault outcome ≡ false → CountsStand old new
words_counts words limits old new position outcome (inl none) no_fault = same_counts old new none.same
words_counts words limits old new position outcome (inr job) no_fault = go_counts job.file limits old new position outcome job.cause no_fault

with_last : (old : Outside) (files : Disk) (input out mid last : Stream) → last.faults ≡ mid.faults → CountsStand old (outside files input out mid)
    → CountsStand old (outside files input out last)
with_last old files input out mid last same c =
    record { reads = c.reads; writes = c.writes; input = c.input; out = c.out; err = same ∙ c.err }

line_counts : (line : List ℕ) (old : Outside) (files : Disk) (input out mid last : Stream) (before outcome : Outcome)
    → (is_fault before ≡ false → CountsStand old (outside files input out mid)) → EndsWith line before outcome mid last
    → is_fault outcome ≡ false → CountsStand old (outside files input out last)
line_counts line old files input out mid last before outcome counts (inl stands) no_fault =
    with_last old files input out mid last stands.faults (counts (fault_is outcome before stands.same no_fault))
line_counts line old files input out mid last before outcome counts (inr failed) no_fault =
    let k : false ≡ true = sym (fault_is outcome answer.SinkFault failed.fault no_fault) in cc

line_tells : (line : List ℕ) (before outcome : Outcome) (mid last : Stream) → EndsWith line before outcome mid last → IsTrue last.told → IsTrue mid.told
line_tells line before outcome mid last (inl stands) t = stands.told t
line_tells line before outcome mid last (inr failed) t = failed.told t

-- files and streams keep telling
pub keep_telling : (files files' : Disk) (input out input' out' err : Stream) → DiskTold files files' → StillTold (streams input out) (streams input' out')
    → KeepTelling (outside files input out err) (outside files' input' out' err)
keep_telling files files' input out input' out' err disk t = record { files = disk; input = t.input; out = t.out; err = λ e. e }

-- an answer with its cause, and then its last line
pub answers : (cause : Causes) (names : List (List ℕ)) (old : Outside) (files : Disk) (input out mid last : Stream) (position : Position)
    (before outcome : Outcome) → cause old (outside files input out mid) position before
    → (is_fault before ≡ false → CountsStand old (outside files input out mid))
    → EndsWith (last_line names position before) before outcome mid last → KeepTelling old (outside files input out mid)
    → Answers cause names old (outside files input out last) outcome
answers cause names old files input out mid last position before outcome caused counts line told = record {
  before = before;
  position = position;
  err = mid;
  caused = caused;
  line = line;
  counts = line_counts (last_line names position before) old files input out mid last before outcome counts line;
  told = record { files = told.files; input = told.input; out = told.out; err = λ t. told.err (line_tells _ before outcome mid last line t) };
}
