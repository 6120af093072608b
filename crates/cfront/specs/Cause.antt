-- The one cause of each answer of `go FILE`, before its last line.
use Rattle.std.specs.Prelude.{◌≡◌, ◌⊎◌, ℕ, ◌<◌, ◌≤◌, ◌*◌, List, [], ◌∷◌, Option, Some, None, IsTrue, IsSomeAnd, length, Ok, Err}
use Rattle.cf_base.specs.declared.limit.Bound.TheVariants as bound
use Rattle.cf_base.specs.declared.limit.Limit.{Limit}
use Rattle.cf_base.specs.Disk.{Disk, Names, Rises, SameElsewhere}
use Rattle.cc_whole.specs.declared.unit.CUnit.{CUnit}
use Rattle.cc_whole.specs.declared.unit.CProgram.{CProgram}
use Rattle.cc_whole.specs.Plain.{items_of}
use Rattle.cc_whole_limits.specs.Nodes.{nodes_of}
use Rattle.cc_whole_limits.specs.StartLimit.{most_nodes, most_frames}
use Rattle.cc_whole_link.specs.Link.{Refusal}
use Rattle.cc_whole_linked.specs.Limited.{LinksWithin, refused as not_linked_by, past_the_limit}
use Rattle.cc_whole_linker.specs.Answers.{static_limit}
use Rattle.cc_whole_run.specs.declared.types.Limits.{Limits}
use Rattle.cc_whole_run.specs.Run.{Front, meant}
use Rattle.cf_compile.specs.Takes.{Takes, frame_bound}
use Rattle.cf_core.specs.FromUnit.{Unit as CoreUnit}
use Rattle.cf_first.specs.First.{breaks, passes}
use Rattle.cfront.specs.declared.outcome.Outcome.{Outcome}
use Rattle.cfront.specs.declared.outcome.Outcome.TheVariants as answer
use Rattle.cfront.specs.declared.position.Position.{Position}
use Rattle.cfront.specs.Outside.{Outside, StreamsStand, CountsStand, streams_of}
use Rattle.cfront.specs.Position.{position_of}
use Rattle.cfront.specs.Run.{RanTo}
use Rattle.cfront.specs.Translated.{WasRead, Translated, TextStands, DiskCountsStand, Made, most_bytes}
use Rattle.cfront.specs.Words.{text_name}

-- these bytes are refused by a rule at a place, which stands at this position
pub record RefusedAt (bytes : List ℕ) (position : Position) (outcome : Outcome) : Type 0 where
  pub rule : ℕ
  pub at : ℕ
  pub refused : Takes bytes (Err (breaks (record { rule = rule; at = at })))
  pub stands_at : position ≡ position_of bytes at
  pub answered : outcome ≡ answer.Refused 1 rule at

-- these bytes are refused by a limit
pub record LimitedBy (bytes : List ℕ) (outcome : Outcome) : Type 0 where
  pub limit : Limit
  pub passed : Takes bytes (Err (passes limit))
  pub answered : outcome ≡ answer.Limit (Some 1) limit

-- The first file passes a limit. Nothing was written.
pub record FirstLimited (file : List ℕ) (old new : Disk) (outcome : Outcome) : Type 0 where
  pub bytes : List ℕ
  pub read : WasRead file old bytes
  pub limited : LimitedBy bytes outcome
  pub content : new.content ≡ old.content
  pub counts : DiskCountsStand old new

-- The first file is refused. Nothing was written.
pub record FirstRefused (file : List ℕ) (old new : Disk) (position : Position) (outcome : Outcome) : Type 0 where
  pub bytes : List ℕ
  pub read : WasRead file old bytes
  pub refused : RefusedAt bytes position outcome
  pub content : new.content ≡ old.content
  pub counts : DiskCountsStand old new

-- The first file has too many bytes. Nothing was written.
pub record FirstTooLong (file : List ℕ) (old new : Disk) (outcome : Outcome) : Type 0 where
  pub long : IsTrue old.told → IsSomeAnd (old.content file) (λ bytes. most_bytes < length bytes)
  pub answered : outcome ≡ answer.Limit (Some 1) (record { bound = bound.Bytes; most = most_bytes })
  pub content : new.content ≡ old.content
  pub counts : DiskCountsStand old new

-- The read of the file failed. Nothing was written.
pub record ReadFailed (file : List ℕ) (old new : Disk) (outcome : Outcome) : Type 0 where
  pub rises : Rises file old.read_faults new.read_faults
  pub answered : outcome ≡ answer.FileFault
  pub content : new.content ≡ old.content
  pub writes : new.write_faults ≡ old.write_faults

-- The file was taken, and the write of its text failed.
pub record WriteFailed (file : List ℕ) (old new : Disk) (outcome : Outcome) : Type 0 where
  pub bytes : List ℕ
  pub read : WasRead file old bytes
  pub source : CoreUnit
  pub taken : Takes bytes (Ok source)
  pub rises : Rises (text_name file) old.write_faults new.write_faults
  pub answered : outcome ≡ answer.FileFault
  pub elsewhere : IsTrue old.told → SameElsewhere (text_name file) old.content new.content
  pub reads : new.read_faults ≡ old.read_faults

-- The text of the file stands, and its unit alone does not link: this rule of linking is broken, about this name.
pub record NotLinked (file : List ℕ) (old new : Disk) (outcome : Outcome) : Type 0 where
  pub unit : CUnit
  pub stands : TextStands file old new unit
  pub refusal : Refusal
  pub refused : LinksWithin (unit ∷ []) (not_linked_by refusal)
  pub answered : outcome ≡ answer.LinkRefused refusal.rule refusal.name

-- The text of the file stands, and the variables of its unit pass the limit.
pub record PastStatic (file : List ℕ) (old new : Disk) (outcome : Outcome) : Type 0 where
  pub unit : CUnit
  pub stands : TextStands file old new unit
  pub passed : LinksWithin (unit ∷ []) past_the_limit
  pub answered : outcome ≡ answer.Limit None static_limit

-- why there is no program to run
pub data FileCause (file : List ℕ) (old new : Disk) (position : Position) (outcome : Outcome) : Type 0 where
  read_failed : ReadFailed file old new outcome → FileCause file old new position outcome
  too_long : FirstTooLong file old new outcome → FileCause file old new position outcome
  limited : FirstLimited file old new outcome → FileCause file old new position outcome
  refused : FirstRefused file old new position outcome → FileCause file old new position outcome
  write_failed : WriteFailed file old new outcome → FileCause file old new position outcome
  not_linked : NotLinked file old new outcome → FileCause file old new position outcome
  past_static : PastStatic file old new outcome → FileCause file old new position outcome

-- There was no program to run, and input and sinks are as they were.
pub record Stopped (file : List ℕ) (old new : Outside) (position : Position) (outcome : Outcome) : Type 0 where
  pub cause : FileCause file old.files new.files position outcome
  pub streams : StreamsStand old new

-- the most nodes of a program that is run
abbrev pub nodes_limit : Limit
nodes_limit = record { bound = bound.Nodes; most = most_nodes }

-- the greatest bound of the frames of the file's functions, once for each level of depth
abbrev pub frames_of_source : CoreUnit → Limits → ℕ
frames_of_source source limits = frame_bound source * limits.depth

-- why a program is not run: it has too many nodes, or its frames may take too much
pub data StartStops (program : CProgram) (source : CoreUnit) (limits : Limits) (outcome : Outcome) : Type 0 where
  passes_nodes : most_nodes < nodes_of (items_of program.items) → outcome ≡ answer.Limit None nodes_limit → StartStops program source limits outcome
  passes_frames : nodes_of (items_of program.items) ≤ most_nodes → most_frames < frames_of_source source limits
      → outcome ≡ answer.Frames (frames_of_source source limits) → StartStops program source limits outcome

pub record MayStart (program : CProgram) (source : CoreUnit) (limits : Limits) : Type 0 where
  pub nodes : nodes_of (items_of program.items) ≤ most_nodes
  pub frames : frames_of_source source limits ≤ most_frames

-- A program was made, and is not run. Input and sinks are as they were.
pub record NotStarted (file : List ℕ) (limits : Limits) (old new : Outside) (outcome : Outcome) : Type 0 where
  pub program : CProgram
  pub made : Made file old.files new.files program
  pub stops : StartStops program made.stands.translated.source limits outcome
  pub streams : StreamsStand old new

-- The file's text stands, and the program that it links to ran to this answer.
pub record Ran (file : List ℕ) (limits : Limits) (old new : Outside) (outcome : Outcome) : Type 0 where
  pub program : CProgram
  pub made : Made file old.files new.files program
  pub starts : MayStart program made.stands.translated.source limits
  pub runs : RanTo program limits (streams_of old) (streams_of new) outcome
  pub err : new.err ≡ old.err

pub data GoCause (file : List ℕ) (limits : Limits) (old new : Outside) (position : Position) (outcome : Outcome) : Type 0 where
  stopped : Stopped file old new position outcome → GoCause file limits old new position outcome
  not_started : NotStarted file limits old new outcome → GoCause file limits old new position outcome
  ran : Ran file limits old new outcome → GoCause file limits old new position outcome

-- a run was begun, and a front of what the program means was carried out
pub record Begun (file : List ℕ) (limits : Limits) (old new : Outside) : Type 0 where
  pub program : CProgram
  pub made : Made file old.files new.files program
  pub starts : MayStart program made.stands.translated.source limits
  pub err : new.err ≡ old.err
  pub front : Front (meant program limits) (streams_of old) (streams_of new)

-- no file was written, or the text of the file stands
pub data TextLeft (file : List ℕ) (old new : Disk) : Type 0 where
  unwritten : (IsTrue old.told → new.content ≡ old.content) → TextLeft file old new
  text_stands : (unit : CUnit) → Translated file old new unit → TextLeft file old new

-- What stands after want of memory.
pub record LeftByMemory (file : List ℕ) (limits : Limits) (old new : Outside) : Type 0 where
  pub text : TextLeft file old.files new.files
  pub elsewhere : IsTrue old.files.told → SameElsewhere (text_name file) old.files.content new.files.content
  pub counts : CountsStand old new
  pub streams : StreamsStand old new ⊎ Begun file limits old new
