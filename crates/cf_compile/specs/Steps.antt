-- What the steps from the bytes of a file to its text give.
use Rattle.std.specs.Prelude.{◌≡◌, ◌⊎◌, ℕ, ◌≤◌, ◌<◌, Bool, true, false, List, Result, Ok, Err}
use Rattle.cf_base.specs.declared.limit.Limit.{Limit}
use Rattle.cf_base.specs.declared.memory.Memory.{Memory}
use Rattle.cf_base.specs.declared.rule.Broken.{Broken}
use Rattle.cc_whole_print.specs.Units.{unit_text}
use Rattle.cf_core.specs.FromUnit.{Unit as CoreUnit, IsValid, file_of}
use Rattle.cf_first.specs.First.{First, breaks, passes, not_built}
use Rattle.cf_lower_program.specs.Agrees.{IsLowered}
use Rattle.cf_lower_program.specs.Lowerable.{Lowerable}
use Rattle.cf_lowerable.specs.Tested.{CoreTested}
use Rattle.cf_plain.specs.Plain.{PlainFile}
use Rattle.cf_plain.specs.View as plain
use Rattle.cf_sequence_unit.specs.Sequences.{Sequences}
use Rattle.cf_compile.specs.Means.{KeepsMeaning}
use Rattle.cf_compile.specs.Takes.{greatest, frame_bound, most_frame, frame_limit}
use Rattle.cf_compile.specs.Tests.{Lowers}
use Rattle.cf_compile.specs.declared.compiled.Compiled.{Compiled}
use Rattle.cf_compile.specs.declared.fault.Fault.{Fault}
use Rattle.cf_compile.specs.declared.fault.Fault.TheVariants as fault

-- the core of a file, or why it has none
abbrev pub HasCore : List ℕ → Result CoreUnit Fault → Type 0
HasCore bytes (Ok core) = First bytes (Ok core)
HasCore bytes (Err (fault.Broken b)) = First bytes (Err (breaks b))
HasCore bytes (Err (fault.Limit limit)) = First bytes (Err (passes limit))
HasCore bytes (Err fault.Memory) = Unit {0}

-- the unit that a plain file is lowered to, and the text that is printed for that
pub record IsWritten (file : PlainFile) (bytes : ℕ) (made : Compiled) : Type 0 where
  pub lowered : IsLowered file made.unit
  pub printed : made.text.items ≡ unit_text made.unit
  pub frame : made.frame ≡ bytes

-- with this bound of its frames; it fails for want of memory alone
abbrev pub Writes : PlainFile → ℕ → Result Compiled Fault → Type 0
Writes file bytes (Ok made) = IsWritten file bytes made
Writes file bytes (Err (fault.Broken b)) = ⊥
Writes file bytes (Err (fault.Limit limit)) = ⊥
Writes file bytes (Err fault.Memory) = Unit {0}

-- The bound of the frames is within the limit, the core fits, and the plain file is as lowering asks where it is made of such a core. This is its unit, with the text.
pub record IsFinished (made : plain.Unit) (tested : Result Bool Memory) (c : Compiled) : Type 0 where
  pub within : greatest made.frames ≤ most_frame
  pub passed : tested ≡ Ok true
  pub lowerable : (core : CoreUnit) → IsValid core → Sequences core made → CoreTested (file_of core) → Lowerable (plain.file_of made)
  pub written : IsWritten (plain.file_of made) (greatest made.frames) c

-- the core does not fit, or the plain file is not as lowering asks
pub record IsUnfit (made : plain.Unit) (tested : Result Bool Memory) (b : Broken) : Type 0 where
  pub broken : b ≡ not_built
  pub within : greatest made.frames ≤ most_frame
  pub unfit : (tested ≡ Ok false) ⊎ (Lowerable (plain.file_of made) → ⊥)

-- a frame may pass the limit
pub record IsTooLarge (made : plain.Unit) (told : Limit) : Type 0 where
  pub limit : told ≡ frame_limit
  pub past : most_frame < greatest made.frames

-- what becomes of a plain file whose core fits or not
abbrev pub Finishes : plain.Unit → Result Bool Memory → Result Compiled Fault → Type 0
Finishes made tested (Ok c) = IsFinished made tested c
Finishes made tested (Err (fault.Broken b)) = IsUnfit made tested b
Finishes made tested (Err (fault.Limit limit)) = IsTooLarge made limit
Finishes made tested (Err fault.Memory) = Unit {0}

-- the unit of a core that lowers, and its text, which keeps its meaning; the frames are within the limit
pub record IsMade (core : CoreUnit) (made : Compiled) : Type 0 where
  pub lowers : Lowers core
  pub keeps : KeepsMeaning core made.unit made.text.items
  pub frame : made.frame ≡ frame_bound core
  pub within : made.frame ≤ most_frame

-- a core that is not as lowering asks, whose frames are within the limit
pub record IsRefused (core : CoreUnit) (b : Broken) : Type 0 where
  pub broken : b ≡ not_built
  pub within : frame_bound core ≤ most_frame
  pub none : Lowers core → ⊥

-- a core of which a frame may pass the limit
pub record IsPast (core : CoreUnit) (told : Limit) : Type 0 where
  pub limit : told ≡ frame_limit
  pub past : most_frame < frame_bound core

-- what becomes of a core whose constructs are all built
abbrev pub Makes : CoreUnit → Result Compiled Fault → Type 0
Makes core (Ok made) = IsMade core made
Makes core (Err (fault.Broken b)) = IsRefused core b
Makes core (Err (fault.Limit limit)) = IsPast core limit
Makes core (Err fault.Memory) = Unit {0}
