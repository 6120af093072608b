-- What sequencing gives for the core of a file.
use Rattle.std.specs.Prelude.{◌≡◌, List, [], ◌∷◌, Some, None, Result, Ok, Err}
use Rattle.cf_core.specs.FromUnit.{Unit as CoreUnit, IsValid, file_of}
use Rattle.cf_frame.specs.Bound.{frames_of}
use Rattle.cf_plain.specs.View as plain
use Rattle.cf_sequence.specs.Sequenced.{sequenced_file}
use Rattle.cf_sequence_built.specs.Unbuilt.{in_file}
use Rattle.cf_sequence_unit.specs.declared.fault.SequenceFault.{SequenceFault}
use Rattle.cf_sequence_unit.specs.declared.fault.SequenceFault.TheVariants as fault

-- the plain unit of a core's file: its tables are handed on, and each function has its frame bound
pub record IsSequenced (unit : CoreUnit) (made : plain.Unit) : Type 0 where
  pub types : made.types ≡ unit.types
  pub classes : made.classes ≡ unit.classes
  pub file : plain.file_of made ≡ sequenced_file (file_of unit)
  pub frames : made.frames ≡ frames_of (file_of unit)

-- that of a file whose constructs are all built
pub record Sequences (unit : CoreUnit) (made : plain.Unit) : Type 0 where
  pub built : in_file unit ≡ None
  pub sequenced : IsSequenced unit made

-- a plain unit, or the place of the first construct that is not built; want of memory may come anywhere
abbrev pub Gives : CoreUnit → Result plain.Unit SequenceFault → Type 0
Gives unit (Ok made) = Sequences unit made
Gives unit (Err (fault.NotBuilt at)) = in_file unit ≡ Some at
Gives unit (Err fault.Memory) = Unit {0}

-- the files of a program, each valid, with what sequencing gives for them
abbrev pub AreSequenced : List CoreUnit → List plain.Unit → Type 0
AreSequenced [] [] = Unit {0}
AreSequenced (u ∷ us) (p ∷ ps) = IsValid u × Sequences u p × AreSequenced us ps
AreSequenced us ps = ⊥
