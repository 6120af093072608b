-- What the run of a file's program does, by what the file means; and which files run.
use Rattle.std.specs.Prelude.{◌≡◌, ◌⊎◌, ℕ, ◌≤◌, true, false, List, [], ◌∷◌, length, Option, Some, IsTrue, Ok}
use Rattle.cf_base.specs.Disk.{Disk}
use Rattle.cf_base.specs.Event.{Event, End as EndOf, Ended, Ticks, Depth, Undefined}
use Rattle.cf_base.specs.Stream.{IsFront}
use Rattle.cf_base.specs.World.{Outcome as Meant}
use Rattle.cf_streams.specs.Streams.{Streams, Carried}
use Rattle.cc_whole.specs.declared.unit.CUnit.{CUnit}
use Rattle.cc_whole.specs.declared.unit.CProgram.{CProgram}
use Rattle.cc_whole_linked.specs.Limited.{LinksWithin, linked}
use Rattle.cc_whole_run.specs.declared.types.Limits.{Limits}
use Rattle.cc_whole_run.specs.Run.{meant}
use Rattle.cf_compile.specs.Takes.{Takes}
use Rattle.cf_core.specs.FromUnit.{Unit as CoreUnit, units_mean}
use Rattle.cf_lower_place.specs.Input.{IsInput}
use Rattle.cf_one_file.specs.Means.{IsMeant}
use Rattle.cf_translate.specs.Translated.{Translates}
use Rattle.cfront.specs.declared.outcome.Outcome.{Outcome}
use Rattle.cfront.specs.declared.outcome.Outcome.TheVariants as answer
use Rattle.cfront.specs.declared.position.Position.{Position}
use Rattle.cfront.specs.Answer.{Answers, WordsCause, LineStands, is_fault}
use Rattle.cfront.specs.Cause.{MayStart, GoCause, Ran}
use Rattle.cfront.specs.LastLine.{last_line}
use Rattle.cfront.specs.Outside.{Outside, streams_of, with_err}
use Rattle.cfront.specs.Translated.{most_bytes}
use Rattle.cfront.specs.Words.{IsGo, files_of}

-- ---- a program and its source

-- the outcome that a file means within these limits, for an input
abbrev pub source_means : CoreUnit → Limits → List ℕ → Option Meant
source_means source limits input = units_mean (source ∷ []) input limits.heap limits.depth limits.ticks

-- The file means an outcome for each input of bytes, and that of the program agrees with it.
abbrev pub ProgramMeans : CoreUnit → CProgram → Limits → Type 0
ProgramMeans source program limits = (input : List ℕ) → IsInput input → IsMeant source input limits.heap limits.depth limits.ticks (meant program limits input)

-- ---- a run and its source

-- the answer for an end that the source means; an act without a meaning has none
abbrev pub EndsAs : EndOf → Outcome → Type 0
EndsAs (Ended status) outcome = outcome ≡ answer.Ended status
EndsAs Ticks outcome = outcome ≡ answer.Ticks
EndsAs Depth outcome = outcome ≡ answer.Depth
EndsAs (Undefined act) outcome = ⊥

-- the run did all that is meant, and ended so
pub record DidAll (m : Meant) (input : List ℕ) (old new : Streams) (outcome : Outcome) : Type 0 where
  pub carried : Carried m.trace input old new
  pub ends : EndsAs m.end outcome

-- what is meant comes to an act without a meaning; the run did all up to there, and went on in its own way
pub record WentOn (m : Meant) (input : List ℕ) (old new : Streams) : Type 0 where
  pub act : ℕ
  pub undefined : m.end ≡ Undefined act
  pub events : List Event
  pub carried : Carried events input old new
  pub front : IsFront m.trace events

abbrev pub DoesAsMeant : Meant → List ℕ → Streams → Streams → Outcome → Type 0
DoesAsMeant m input old new outcome = DidAll m input old new outcome ⊎ WentOn m input old new

-- of each run: its program means what its source does
abbrev pub RunsAreMeant : Type 0
RunsAreMeant =
    (file : List ℕ) (limits : Limits) (old new : Outside) (outcome : Outcome) (ran : Ran file limits old new outcome)
    → ProgramMeans ran.made.stands.translated.source ran.program limits

-- the source means this for the input, and the run does so
pub record DoesAsSource (source : CoreUnit) (limits : Limits) (input : List ℕ) (old new : Streams) (outcome : Outcome) : Type 0 where
  pub meant : Meant
  pub means : source_means source limits input ≡ Some meant
  pub does : DoesAsMeant meant input old new outcome

-- of a run that no fault ended, of an input that is told: it does as its source means
abbrev pub RunsDoAsMeant : Type 0
RunsDoAsMeant =
    (file : List ℕ) (limits : Limits) (old new : Outside) (outcome : Outcome) (ran : Ran file limits old new outcome)
    → is_fault outcome ≡ false → IsTrue old.input.told → IsInput old.input.bytes
    → DoesAsSource ran.made.stands.translated.source limits old.input.bytes (streams_of old) (streams_of new) outcome

-- ---- files that run

-- a unit links by itself to a program that the limits let start
pub record LinksAndStarts (source : CoreUnit) (limits : Limits) (unit : CUnit) : Type 0 where
  pub program : CProgram
  pub links : LinksWithin (unit ∷ []) (linked program)
  pub starts : MayStart program source limits

-- Nothing stands in the way of a run: the file is there and taken, what it is translated to links by itself, and the program may start.
pub record Unhindered (file : List ℕ) (limits : Limits) (files : Disk) : Type 0 where
  pub told : IsTrue files.told
  pub bytes : List ℕ
  pub holds : files.content file ≡ Some bytes
  pub short : length bytes ≤ most_bytes
  pub source : CoreUnit
  pub taken : Takes bytes (Ok source)
  pub runs : (unit : CUnit) (text : List ℕ) → Translates source unit text → LinksAndStarts source limits unit

-- a cause of an answer that is no fault is a run
abbrev pub UnhinderedFilesRun : Type 0
UnhinderedFilesRun =
    (file : List ℕ) (limits : Limits) (old new : Outside) (position : Position) (outcome : Outcome)
    → Unhindered file limits old.files → GoCause file limits old new position outcome → is_fault outcome ≡ false
    → Ran file limits old new outcome

-- the program of the file ran to this answer, and then its line was written
pub record RanAndTold (file : List ℕ) (limits : Limits) (names : List (List ℕ)) (old new : Outside) (outcome : Outcome) : Type 0 where
  pub position : Position
  pub ran : Ran file limits old (with_err new old.err) outcome
  pub line : LineStands (last_line names position outcome) outcome outcome old.err new.err

-- the same of the whole answer to the words `go FILE`
abbrev pub UnhinderedWordsRun : Type 0
UnhinderedWordsRun =
    (words : List (List ℕ)) (file : List ℕ) (limits : Limits) (old new : Outside) (outcome : Outcome)
    → IsGo words file → Unhindered file limits old.files → Answers (WordsCause words limits) (files_of words) old new outcome → is_fault outcome ≡ false
    → RanAndTold file limits (files_of words) old new outcome
