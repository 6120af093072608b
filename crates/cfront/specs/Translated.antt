-- What stands between a source file and the program that is run.
use Rattle.std.specs.Prelude.{◌≡◌, ℕ, ◌≤◌, ◌^◌, List, [], ◌∷◌, Some, Ok, IsTrue, length}
use Rattle.cf_base.specs.Disk.{Disk, SameElsewhere}
use Rattle.cc_whole.specs.declared.unit.CUnit.{CUnit}
use Rattle.cc_whole.specs.declared.unit.CProgram.{CProgram}
use Rattle.cc_whole_linked.specs.Limited.{LinksWithin, linked}
use Rattle.cf_compile.specs.Means.{KeepsMeaning}
use Rattle.cf_compile.specs.Takes.{Takes}
use Rattle.cf_core.specs.FromUnit.{Unit as CoreUnit}
use Rattle.cfront.specs.Words.{text_name}

-- the most bytes of a source file
abbrev pub most_bytes : ℕ
most_bytes = 2 ^ 20

-- A file was read: these are its bytes, and within the limit.
pub record WasRead (file : List ℕ) (files : Disk) (bytes : List ℕ) : Type 0 where
  pub holds : IsTrue files.told → files.content file ≡ Some bytes
  pub short : length bytes ≤ most_bytes

-- The file was read and taken, and beside it stands a text that keeps its meaning: that of this unit.
pub record Translated (file : List ℕ) (old new : Disk) (unit : CUnit) : Type 0 where
  pub bytes : List ℕ
  pub read : WasRead file old bytes
  pub source : CoreUnit
  pub taken : Takes bytes (Ok source)
  pub text : List ℕ
  pub written : IsTrue old.told → new.content (text_name file) ≡ Some text
  pub keeps : KeepsMeaning source unit text

-- no read and no write failed
pub record DiskCountsStand (old new : Disk) : Type 0 where
  pub reads : new.read_faults ≡ old.read_faults
  pub writes : new.write_faults ≡ old.write_faults

-- the text of the file stands, and no other file was touched
pub record TextStands (file : List ℕ) (old new : Disk) (unit : CUnit) : Type 0 where
  pub translated : Translated file old new unit
  pub elsewhere : IsTrue old.told → SameElsewhere (text_name file) old.content new.content
  pub counts : DiskCountsStand old new

-- and its unit alone links to this program
pub record Made (file : List ℕ) (old new : Disk) (program : CProgram) : Type 0 where
  pub unit : CUnit
  pub stands : TextStands file old new unit
  pub linked : LinksWithin (unit ∷ []) (linked program)
