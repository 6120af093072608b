use Rattle.std.proofs.Common.{◌≡◌, true, [], ◌∷◌, refl}
use Rattle.std.specs.List.{list_all}
use Rattle.cf_base.proofs.Tests.{all_of}
use Rattle.cc_whole.specs.declared.unit.CUnit.{CUnit}
use Rattle.cc_whole.specs.ValidUnit.{valid_unit}
use Rattle.cf_plain.specs.Plain.{PlainFile}
use Rattle.cf_lower_program.specs.Agrees.{IsLowered}
use Rattle.cf_lower_program.specs.Lowerable.{Lowerable}
use Rattle.cf_lower_valid.proofs.Units.{unit-valid}
use Rattle.cf_lower_alone.proofs.AgreesLaws.File.{one-agrees}
use Rattle.cf_lower_alone.proofs.agrees.one_file_agrees.Goals as goal

unit-passes : (file : PlainFile) (unit : CUnit) → Lowerable file → IsLowered file unit → list_all valid_unit (unit ∷ []) ≡ true
unit-passes file unit low is = all_of (valid_unit unit) true (unit-valid file unit low is) refl

pub returns : goal.returns
returns c = λ file unit program low is links.
    one-agrees file unit program (c.programs_of_valid_units_are_valid.ensures (unit ∷ []) program (unit-passes file unit low is) links) low is links
