-- The whole of what a call of the top leaves.
use Rattle.std.specs.Prelude.{◌≡◌, ◌⊎◌, ℕ, Bool, true, false, List, [], ◌∷◌, ◌++◌, IsTrue, Result, Ok, Err}
use Rattle.cf_base.specs.Rose.{Rose}
use Rattle.cf_base.specs.Stream.{Stream, AddsFront}
use Rattle.cc_whole_run.specs.declared.types.Limits.{Limits}
use Rattle.cfront.specs.declared.outcome.Outcome.{Outcome}
use Rattle.cfront.specs.declared.outcome.Outcome.TheVariants as answer
use Rattle.cfront.specs.declared.position.Position.{Position}
use Rattle.cfront.specs.Cause.{GoCause, LeftByMemory}
use Rattle.cfront.specs.LastLine.{last_line, file_name}
use Rattle.cfront.specs.Outside.{Outside, CountsStand, KeepTelling, with_err}
use Rattle.cfront.specs.Words.{IsGo, files_of}

-- the answer stays, and its line stands on `err`
pub record LineStands (line : List ℕ) (before after : Outcome) (old new : Stream) : Type 0 where
  pub same : after ≡ before
  pub told : IsTrue new.told → IsTrue old.told
  pub bytes : IsTrue new.told → new.bytes ≡ old.bytes ++ line
  pub faults : new.faults ≡ old.faults

-- `err` failed: the answer is that, whatever it was before, and a front of its line stands
pub record LineFailed (line : List ℕ) (before after : Outcome) (old new : Stream) : Type 0 where
  pub fault : after ≡ answer.SinkFault
  pub told : IsTrue new.told → IsTrue old.told
  pub bytes : IsTrue new.told → AddsFront line old.bytes new.bytes
  pub rose : Rose old.faults new.faults

abbrev pub EndsWith : List ℕ → Outcome → Outcome → Stream → Stream → Type 0
EndsWith line before after old new = LineStands line before after old new ⊎ LineFailed line before after old new

abbrev pub is_fault : Outcome → Bool
is_fault answer.FileFault = true
is_fault answer.SourceFault = true
is_fault answer.SinkFault = true
is_fault outcome = false

-- why an answer comes, from one state of the outside to another; the position is that of a refusal
abbrev pub Causes : Type 1
Causes = Outside → Outside → Position → Outcome → Type 0

-- An answer has a cause. Then its last line is written; `err` is what stands there before that.
pub record Answers (cause : Causes) (names : List (List ℕ)) (old new : Outside) (outcome : Outcome) : Type 0 where
  pub before : Outcome
  pub position : Position
  pub err : Stream
  pub caused : cause old (with_err new err) position before
  pub line : EndsWith (last_line names position before) before outcome err new.err
  pub counts : is_fault outcome ≡ false → CountsStand old new
  pub told : KeepTelling old new

-- what `go` on the first of these names leaves
abbrev pub GoKeeps : {M : Type 0} → List (List ℕ) → Limits → Outside → Outside → Result Outcome M → Type 0
GoKeeps names limits old new (Ok outcome) = Answers (GoCause (file_name names 1) limits) names old new outcome
GoKeeps names limits old new (Err memory) = LeftByMemory (file_name names 1) limits old new × KeepTelling old new

-- no job fits the words, and nothing changed
pub record NoJob (words : List (List ℕ)) (old new : Outside) (outcome : Outcome) : Type 0 where
  pub none : (file : List ℕ) → IsGo words file → ⊥
  pub answered : outcome ≡ answer.Usage
  pub same : new ≡ old

pub record GoJob (words : List (List ℕ)) (limits : Limits) (old new : Outside) (position : Position) (outcome : Outcome) : Type 0 where
  pub file : List ℕ
  pub job : IsGo words file
  pub cause : GoCause file limits old new position outcome

-- the cause of an answer to words: that there is no job, or the job's
abbrev pub WordsCause : List (List ℕ) → Limits → Outside → Outside → Position → Outcome → Type 0
WordsCause words limits old new position outcome = NoJob words old new outcome ⊎ GoJob words limits old new position outcome

pub record WordsLeft (words : List (List ℕ)) (limits : Limits) (old new : Outside) : Type 0 where
  pub file : List ℕ
  pub job : IsGo words file
  pub left : LeftByMemory file limits old new

abbrev pub Keeps : {M : Type 0} → List (List ℕ) → Limits → Outside → Outside → Result Outcome M → Type 0
Keeps words limits old new (Ok outcome) = Answers (WordsCause words limits) (files_of words) old new outcome
Keeps words limits old new (Err memory) = WordsLeft words limits old new × KeepTelling old new
