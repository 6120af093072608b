-- What is written for files of built functions has the meaning of their cores.
use Rattle.std.proofs.Common.{◌≡◌, ℕ, true, List, [], ◌∷◌, map, refl, ap, ◌∙◌, ◌&&◌}
use Rattle.std.specs.Prelude.{Some}
use Rattle.std.specs.List.{list_all}
use Rattle.std.specs.declared.alloc.Global.{Global}
use Rattle.cf_base.specs.World.{Outcome}
use Rattle.cf_core.specs.Core.{CoreFile}
use Rattle.cf_core.specs.FromUnit.{Unit as CoreUnit, file_of, units_mean}
use Rattle.cf_core.specs.Joined.{program_of}
use Rattle.cf_core.specs.Program.{Mean}
use Rattle.cf_plain.specs.Plain.{PlainFile}
use Rattle.cf_plain.specs.Joined.{files_mean}
use Rattle.cf_plain.specs.View as plain
use Rattle.cf_sequence.specs.Built.{is_built_file}
use Rattle.cf_sequence.specs.Sequenced.{sequenced_file}
use Rattle.cf_sequence_fn.specs.Functions.{written_unit}
use Rattle.cf_sequence_written.specs.Built.{AreBuilt}
use Rattle.cf_sequence_written.proofs.Units.{file-is}

module _ (alloc : Global) (frames : CoreUnit → List ℕ) where
  abbrev written : CoreUnit → PlainFile
  written u = plain.file_of (written_unit alloc (frames u) u)

  files-are : (units : List CoreUnit) → AreBuilt units → map written units ≡ map sequenced_file (map file_of units)
  files-are [] built = refl
  files-are (u ∷ us) built =
      ap (λ z. z ∷ map written us) (file-is alloc (frames u) u built.0.valid built.0.built)
      ∙ ap (λ l. sequenced_file (file_of u) ∷ l) (files-are us built.1)

  all-built : (units : List CoreUnit) → AreBuilt units → list_all is_built_file (map file_of units) ≡ true
  all-built [] built = refl
  all-built (u ∷ us) built = ap (λ b. b && list_all is_built_file (map file_of us)) built.0.built ∙ all-built us built.1

  -- by the law of the definition
  pub units-keep : ((files : List CoreFile) → list_all is_built_file files ≡ true → (input : List ℕ) (heap depth n : ℕ) (x : Outcome)
      → Mean (program_of files) input heap depth n ≡ Some x → files_mean (map sequenced_file files) input heap depth n ≡ Some x)
      → (units : List CoreUnit) → AreBuilt units → (input : List ℕ) (heap depth n : ℕ) (x : Outcome)
      → units_mean units input heap depth n ≡ Some x → files_mean (map written units) input heap depth n ≡ Some x
  units-keep keeps units built input heap depth n x is =
      ap (λ files. files_mean files input heap depth n) (files-are units built) ∙ keeps (map file_of units) (all-built units built) input heap depth n x is
