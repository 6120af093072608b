-- The plain unit of a core is lowered where both pass their tests.
use Rattle.std.proofs.Common.{◌≡◌, true, sym, subst}
use Rattle.cf_core.specs.Core.{CoreFile}
use Rattle.cf_core.specs.FromUnit.{Unit as CoreUnit, IsValid, file_of}
use Rattle.cf_core.specs.Valid.{valid_file}
use Rattle.cf_lower_program.specs.Lowerable.{Lowerable}
use Rattle.cf_plain.specs.View as plain
use Rattle.cf_sequence.specs.Built.{is_built_file}
use Rattle.cf_sequence.specs.Sequenced.{sequenced_file}
use Rattle.cf_sequence_unit.proofs.Units.{built-file}
use Rattle.cf_sequence_unit.specs.Sequences.{Sequences}
use Rattle.cf_lowerable.specs.Remaining.{Remaining}
use Rattle.cf_lowerable.specs.Tested.{CoreTested, Tested}

-- what sequencing makes of such a file is lowered
abbrev FilesAreLowerable : Type 0
FilesAreLowerable =
    (file : CoreFile) → valid_file file ≡ true → is_built_file file ≡ true → CoreTested file → Remaining (sequenced_file file) → Lowerable (sequenced_file file)

pub unit-lowerable : FilesAreLowerable → (core : CoreUnit) (made : plain.Unit) → IsValid core → Sequences core made → Tested (file_of core) (plain.file_of made)
    → Lowerable (plain.file_of made)
unit-lowerable lowerable core made valid sequences tested =
    subst Lowerable (sym sequences.sequenced.file)
    (lowerable (file_of core) valid.file (built-file core sequences.built) (Tested.tested tested) (subst Remaining sequences.sequenced.file (Tested.remaining tested)))
