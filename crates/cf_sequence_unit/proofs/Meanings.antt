-- Plain units that sequencing gives have the meaning of their cores, by the law of the definition.
use Rattle.std.proofs.Common.{◌≡◌, ℕ, true, List, [], ◌∷◌, map, refl, ap, ◌∙◌}
use Rattle.std.specs.Prelude.{Some}
use Rattle.std.specs.List.{list_all}
use Rattle.cf_base.specs.World.{Outcome}
use Rattle.cf_base.proofs.Tests.{all_of}
use Rattle.cf_core.specs.Core.{CoreFile}
use Rattle.cf_core.specs.FromUnit.{Unit as CoreUnit, file_of, units_mean}
use Rattle.cf_core.specs.Joined.{program_of}
use Rattle.cf_core.specs.Program.{Mean}
use Rattle.cf_plain.specs.Plain.{PlainFile}
use Rattle.cf_plain.specs.Joined.{files_mean}
use Rattle.cf_plain.specs.View as plain
use Rattle.cf_sequence.specs.Built.{is_built_file}
use Rattle.cf_sequence.specs.Sequenced.{sequenced_file}
use Rattle.cf_sequence_unit.specs.Sequences.{AreSequenced}
use Rattle.cf_sequence_unit.proofs.Units.{built-file}

files-are : (us : List CoreUnit) (ps : List plain.Unit) → AreSequenced us ps → map plain.file_of ps ≡ map sequenced_file (map file_of us)
files-are [] [] all = refl
files-are [] (p ∷ ps) all = absurd all
files-are (u ∷ us) [] all = absurd all
files-are (u ∷ us) (p ∷ ps) all =
    ap (λ (f : PlainFile). f ∷ map plain.file_of ps) all.1.sequenced.file ∙ ap (λ l. sequenced_file (file_of u) ∷ l) (files-are us ps all.2)

all-built : (us : List CoreUnit) (ps : List plain.Unit) → AreSequenced us ps → list_all is_built_file (map file_of us) ≡ true
all-built [] [] all = refl
all-built [] (p ∷ ps) all = refl
all-built (u ∷ us) [] all = absurd all
all-built (u ∷ us) (p ∷ ps) all =
    all_of (is_built_file (file_of u)) (list_all is_built_file (map file_of us)) (built-file u all.1.built) (all-built us ps all.2)

pub units-keep : ((files : List CoreFile) → list_all is_built_file files ≡ true → (input : List ℕ) (heap depth n : ℕ) (x : Outcome)
    → Mean (program_of files) input heap depth n ≡ Some x → files_mean (map sequenced_file files) input heap depth n ≡ Some x)
    → (us : List CoreUnit) (ps : List plain.Unit) → AreSequenced us ps → (input : List ℕ) (heap depth n : ℕ) (x : Outcome)
    → units_mean us input heap depth n ≡ Some x → files_mean (map plain.file_of ps) input heap depth n ≡ Some x
units-keep keeps us ps all input heap depth n x is =
    ap (λ files. files_mean files input heap depth n) (files-are us ps all) ∙ keeps (map file_of us) (all-built us ps all) input heap depth n x is
