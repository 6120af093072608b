-- The unit of a lowered file is valid.
use Rattle.std.proofs.Common.{◌≡◌, true, List, [], ◌∷◌, refl, ap, subst, ◌∙◌}
use Rattle.cf_base.proofs.Tests.{all_of}
use Rattle.cf_core.specs.Classes.{Class}
use Rattle.cf_plain.specs.Plain.{PlainFunction, PlainStatic, PlainFile}
use Rattle.cc_whole.specs.declared.unit.CUnit.{CUnit}
use Rattle.cc_whole.specs.Plain.{items_of}
use Rattle.cc_whole.specs.Spellable.{spellable_items, spellable_version}
use Rattle.cc_whole.specs.Valid.{first_fault}
use Rattle.cc_whole.specs.ValidUnit.{keeps, valid_items, valid_unit}
use Rattle.cf_lower.specs.Functions.{lowered_file}
use Rattle.cf_lower_program.specs.Lowerable.{is_none, Lowerable}
use Rattle.cf_lower_program.specs.Agrees.{IsLowered}
use Rattle.cf_lower_valid.proofs.Tests.{file_of}
use Rattle.cf_lower_valid.proofs.Files.{no-fault}
use Rattle.cf_lower_valid.proofs.Texts.{file-spelled}

items-valid : (fs : List PlainFunction) (xs : List PlainStatic) → Lowerable (file_of fs xs) → valid_items (lowered_file (file_of fs xs)) ≡ true
items-valid fs xs low =
    all_of (spellable_items (lowered_file (file_of fs xs))) (keeps (first_fault (lowered_file (file_of fs xs)))) (file-spelled fs xs low) (ap keeps (no-fault fs xs low))

no-classes : (cs : List Class) → is_none cs ≡ true → [] ≡ cs
no-classes [] e = refl
no-classes (c ∷ cs) e = absurd (cc)

-- by its classes, of which there are none
file-valid : (file : PlainFile) → Lowerable file → valid_items (lowered_file file) ≡ true
file-valid file low =
    let with_classes : List Class → PlainFile = λ cs. record { classes = cs; functions = file.functions; statics = file.statics } in
    subst (λ cs. Lowerable (with_classes cs) → valid_items (lowered_file (with_classes cs)) ≡ true) (no-classes file.classes low.no_classes)
    (items-valid file.functions file.statics) low

pub unit-valid : (file : PlainFile) (unit : CUnit) → Lowerable file → IsLowered file unit → valid_unit unit ≡ true
unit-valid file unit low is =
    all_of (spellable_version unit.version) (valid_items (items_of unit.items)) (ap spellable_version is.version) (ap valid_items is.items ∙ file-valid file low)
