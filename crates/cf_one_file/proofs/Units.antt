-- The plain file of a core is lowered where the core is covered.
use Rattle.std.proofs.Common.{◌≡◌, true, sym, subst}
use Rattle.cf_core.specs.Core.{CoreFile}
use Rattle.cf_core.specs.FromUnit.{Unit as CoreUnit, IsValid, file_of}
use Rattle.cf_core.specs.Valid.{valid_file}
use Rattle.cf_lower_program.specs.Lowerable.{Lowerable}
use Rattle.cf_plain.specs.View as plain
use Rattle.cf_sequence.specs.Built.{is_built_file}
use Rattle.cf_sequence.specs.Sequenced.{sequenced_file}
use Rattle.cf_sequence_lowered.specs.Lowers.{CoreLowers, Left}
use Rattle.cf_sequence_unit.proofs.Units.{built-file}
use Rattle.cf_sequence_unit.specs.Sequences.{Sequences}
use Rattle.cf_one_file.specs.Covered.{Covered}

-- what sequencing makes of such a file is lowered
abbrev FilesAreLowerable : Type 0
FilesAreLowerable = (file : CoreFile) → valid_file file ≡ true → is_built_file file ≡ true → CoreLowers file → Left (sequenced_file file) → Lowerable (sequenced_file file)

pub covered-lowerable : FilesAreLowerable → (core : CoreUnit) (made : plain.Unit) → IsValid core → Sequences core made → Covered core → Lowerable (plain.file_of made)
covered-lowerable lowerable core made valid sequences covered =
    subst Lowerable (sym sequences.sequenced.file) (lowerable (file_of core) valid.file (built-file core sequences.built) covered.lowers covered.left)
