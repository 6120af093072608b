-- The laws on whole programs: the units of lowered files are valid, they are linked where the plain files are joined, and what is linked of them does what the plain
-- files mean. The first is proved by `cf_lower_valid`; the others are not proved yet.
use Rattle.std.specs.Prelude.{◌≡◌, ℕ, true, List, [], ◌∷◌, Option, Some, None, Ok}
use Rattle.cf_base.specs.World.{Outcome}
use Rattle.cf_base.specs.Agree.{Agree}
use Rattle.cf_plain.specs.Plain.{PlainFile}
use Rattle.cf_plain.specs.Joined.{files_mean}
use Rattle.cc_whole.specs.declared.unit.CUnit.{CUnit}
use Rattle.cc_whole.specs.declared.unit.CProgram.{CProgram}
use Rattle.cc_whole.specs.Plain.{items_of}
use Rattle.cc_whole.specs.ValidUnit.{valid_unit}
use Rattle.cc_whole_link.specs.Link.{Links}
use Rattle.cc_whole_mean.specs.Start.{c_mean}
use Rattle.cf_lower.specs.Functions.{lowered_file}
use Rattle.cf_lower_place.specs.Input.{IsInput}
use Rattle.cf_lower_program.specs.Links.{LinksAsJoined}
use Rattle.cf_lower_program.specs.Lowerable.{Lowerable}

-- the unit is what the file is lowered to
pub record IsLowered (file : PlainFile) (unit : CUnit) : Type 0 where
  pub version : unit.version ≡ 1
  pub items : items_of unit.items ≡ lowered_file file

-- each file and its unit, in order
abbrev pub AreLowered : List PlainFile → List CUnit → Type 0
AreLowered [] [] = Unit {0}
AreLowered [] (u ∷ us) = ⊥
AreLowered (file ∷ files) [] = ⊥
AreLowered (file ∷ files) (u ∷ us) = (Lowerable file × IsLowered file u) × AreLowered files us

-- ---- validity

-- the unit of a file has a text, and keeps rules V1 to V12
abbrev pub UnitsAreValid : Type 0
UnitsAreValid = (file : PlainFile) (unit : CUnit) → Lowerable file → IsLowered file unit → valid_unit unit ≡ true

-- ---- linking

abbrev pub LinkingIsJoining : Type 0
LinkingIsJoining = (files : List PlainFile) (units : List CUnit) → AreLowered files units → LinksAsJoined files units

-- ---- agreement

-- The same end and trace; where the source's run comes to an undefined act, its trace is a front of the C's. Of what no valid files make nothing is said.
abbrev pub AgreesWith : Option Outcome → Outcome → Type 0
AgreesWith None c = Unit {0}
AgreesWith (Some s) c = Agree s c

-- for every input, heap limit, depth limit and bound of ticks
abbrev pub ProgramAgrees : List PlainFile → CProgram → Type 0
ProgramAgrees files program =
    (input : List ℕ) → IsInput input → (heap depth n : ℕ) → AgreesWith (files_mean files input heap depth n) (c_mean program input heap depth n)

-- of all files that are lowered, and for whatever is linked of their units
abbrev pub LoweringAgrees : Type 0
LoweringAgrees =
    (files : List PlainFile) (units : List CUnit) (program : CProgram) → AreLowered files units → Links units (Ok program) → ProgramAgrees files program

-- ---- all three

pub record Lowers : Type 0 where
  pub valid : UnitsAreValid
  pub links : LinkingIsJoining
  pub agrees : LoweringAgrees
