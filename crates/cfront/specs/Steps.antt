-- What the steps from a file to its program leave.
use Rattle.std.specs.Prelude.{◌≡◌, ◌⊎◌, ℕ, List, [], ◌∷◌, Result, Ok, Err, Some, None, IsTrue}
use Rattle.cf_base.specs.Disk.{Disk, SameElsewhere, Rises}
use Rattle.cc_whole.specs.declared.unit.CUnit.{CUnit}
use Rattle.cc_whole.specs.declared.unit.CProgram.{CProgram}
use Rattle.cc_whole_link.specs.Link.{Refusal}
use Rattle.cc_whole_linked.specs.Limited.{LinksWithin, linked, refused, past_the_limit}
use Rattle.cc_whole_linker.specs.Answers.{static_limit}
use Rattle.cc_whole_run.specs.declared.types.Limits.{Limits}
use Rattle.cc_whole_run.specs.Run.{Broken, meant}
use Rattle.cf_streams.specs.Streams.{Streams}
use Rattle.cf_compile.specs.Compiles.{IsCompiled}
use Rattle.cf_compile.specs.Takes.{frame_bound}
use Rattle.cf_compile.specs.declared.compiled.Compiled.{Compiled}
use Rattle.cfront.specs.declared.outcome.Outcome.{Outcome}
use Rattle.cfront.specs.declared.outcome.Outcome.TheVariants as answer
use Rattle.cfront.specs.declared.answer.Answer.{Answer}
use Rattle.cfront.specs.declared.answer.Stop.{Stop}
use Rattle.cfront.specs.declared.answer.Stop.TheVariants as stop
use Rattle.cfront.specs.declared.translating.Program.{Program}
use Rattle.cfront.specs.Answer.{WordsCause, WordsLeft}
use Rattle.cfront.specs.Cause.{FileCause, RefusedAt, LimitedBy, GoCause, TextLeft, LeftByMemory, StartStops, MayStart}
use Rattle.cfront.specs.Outside.{Outside}
use Rattle.cfront.specs.Run.{RanTo}
use Rattle.cfront.specs.Words.{text_name}
use Rattle.cfront.specs.Translated.{WasRead, DiskCountsStand, Made}
use Rattle.cf_core.specs.FromUnit.{Unit as CoreUnit}

-- what the disk holds is told as before
abbrev pub DiskTold : Disk → Disk → Type 0
DiskTold old new = IsTrue old.told → IsTrue new.told

-- nothing on the disk changed
pub record DiskStands (old new : Disk) : Type 0 where
  pub told : DiskTold old new
  pub content : new.content ≡ old.content
  pub counts : DiskCountsStand old new

-- the bytes of a file, or why there are none
abbrev pub ReadLeaves : {T : Type 0} → (T → List ℕ) → List ℕ → Disk → Disk → Result T Stop → Type 0
ReadLeaves view file old new (Ok bytes) = WasRead file old (view bytes) × DiskStands old new
ReadLeaves view file old new (Err (stop.Answer a)) = FileCause file old new a.position a.outcome
ReadLeaves view file old new (Err stop.Memory) = DiskStands old new

-- the unit and the text of some bytes, or the rule that they break, or the limit that they pass
abbrev pub CompileLeaves : List ℕ → Result Compiled Stop → Type 0
CompileLeaves bytes (Ok made) = IsCompiled bytes made
CompileLeaves bytes (Err (stop.Answer a)) = RefusedAt bytes a.position a.outcome ⊎ LimitedBy bytes a.outcome
CompileLeaves bytes (Err stop.Memory) = bytes ≡ bytes

-- bytes were written under a name
pub record WasWritten (name bytes : List ℕ) (old new : Disk) : Type 0 where
  pub here : IsTrue old.told → new.content name ≡ Some bytes
  pub elsewhere : IsTrue old.told → SameElsewhere name old.content new.content
  pub counts : DiskCountsStand old new

-- the write failed, and the answer is that
pub record WriteFault (name : List ℕ) (old new : Disk) (outcome : Outcome) : Type 0 where
  pub rises : Rises name old.write_faults new.write_faults
  pub answered : outcome ≡ answer.FileFault
  pub elsewhere : IsTrue old.told → SameElsewhere name old.content new.content
  pub reads : new.read_faults ≡ old.read_faults

-- nothing was written, and no call failed
pub record NotWritten (old new : Disk) : Type 0 where
  pub content : IsTrue old.told → new.content ≡ old.content
  pub counts : DiskCountsStand old new

-- memory was wanting: no file but that of the text was touched, and no call failed
pub record MemoryLeft (file : List ℕ) (old new : Disk) : Type 0 where
  pub text : TextLeft file old new
  pub elsewhere : IsTrue old.told → SameElsewhere (text_name file) old.content new.content
  pub counts : DiskCountsStand old new

abbrev pub WriteLeaves : {T : Type 0} → List ℕ → List ℕ → Disk → Disk → Result T Stop → Type 0
WriteLeaves name bytes old new (Ok value) = WasWritten name bytes old new
WriteLeaves name bytes old new (Err (stop.Answer a)) = WriteFault name old new a.outcome
WriteLeaves name bytes old new (Err stop.Memory) = NotWritten old new

-- why there is no program, or want of memory
abbrev pub StopLeaves : List ℕ → Disk → Disk → Stop → Type 0
StopLeaves file old new (stop.Answer a) = FileCause file old new a.position a.outcome
StopLeaves file old new stop.Memory = MemoryLeft file old new

-- the program of a file, with the bound of the frames of its functions
pub record MadeOf (file : List ℕ) (old new : Disk) (p : Program) : Type 0 where
  pub made : Made file old new p.program
  pub frame : p.frame ≡ frame_bound made.stands.translated.source

abbrev pub TranslateLeaves : List ℕ → Disk → Disk → Result Program Stop → Type 0
TranslateLeaves file old new (Ok p) = MadeOf file old new p
TranslateLeaves file old new (Err e) = StopLeaves file old new e

-- a rule of linking is broken, and the answer is that
pub record LinkFault (unit : CUnit) (outcome : Outcome) : Type 0 where
  pub refusal : Refusal
  pub refused : LinksWithin (unit ∷ []) (refused refusal)
  pub answered : outcome ≡ answer.LinkRefused refusal.rule refusal.name

-- the variables pass the limit, and the answer is that
pub record LinkLimit (unit : CUnit) (outcome : Outcome) : Type 0 where
  pub passed : LinksWithin (unit ∷ []) past_the_limit
  pub answered : outcome ≡ answer.Limit None static_limit

-- the program that a unit links to by itself, or why it does not
abbrev pub LinkLeaves : CUnit → Result CProgram Stop → Type 0
LinkLeaves unit (Ok program) = LinksWithin (unit ∷ []) (linked program)
LinkLeaves unit (Err (stop.Answer a)) = LinkFault unit a.outcome ⊎ LinkLimit unit a.outcome
LinkLeaves unit (Err stop.Memory) = unit ≡ unit

-- why a program is not run, by the bound of the frames of its file
abbrev pub StartLeaves : Program → Limits → Result (Unit {0}) Outcome → Type 0
StartLeaves p limits (Ok done) = (source : CoreUnit) → p.frame ≡ frame_bound source → MayStart p.program source limits
StartLeaves p limits (Err outcome) = (source : CoreUnit) → p.frame ≡ frame_bound source → StartStops p.program source limits outcome

-- it was not run, and the streams are as they were; or it ran
pub data StartedAs (p : Program) (limits : Limits) (old new : Streams) (outcome : Outcome) : Type 0 where
  stays : StartLeaves p limits (Err outcome) → new ≡ old → StartedAs p limits old new outcome
  runs : StartLeaves p limits (Ok tt) → RanTo p.program limits old new outcome → StartedAs p limits old new outcome

-- memory was wanting in a run that was begun
pub record BrokenOff (p : Program) (limits : Limits) (old new : Streams) : Type 0 where
  pub starts : StartLeaves p limits (Ok tt)
  pub left : Broken (meant p.program limits) old new

abbrev pub StartedLeaves : {M : Type 0} → Program → Limits → Streams → Streams → Result Answer M → Type 0
StartedLeaves p limits old new (Ok a) = StartedAs p limits old new a.outcome
StartedLeaves p limits old new (Err memory) = BrokenOff p limits old new

-- an answer before its last line
abbrev pub GoLeaves : {M : Type 0} → List ℕ → Limits → Outside → Outside → Result Answer M → Type 0
GoLeaves file limits old new (Ok a) = GoCause file limits old new a.position a.outcome
GoLeaves file limits old new (Err memory) = LeftByMemory file limits old new

abbrev pub WordsLeave : {M : Type 0} → List (List ℕ) → Limits → Outside → Outside → Result Answer M → Type 0
WordsLeave words limits old new (Ok a) = WordsCause words limits old new a.position a.outcome
WordsLeave words limits old new (Err memory) = WordsLeft words limits old new
