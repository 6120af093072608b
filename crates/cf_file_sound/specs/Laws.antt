-- What is proved of files.
use Rattle.std.specs.Prelude.{◌≡◌, ℕ, true, List, [], ◌∷◌, None}
use Rattle.cf_core.specs.Core.{CoreFile}
use Rattle.cf_core.specs.FromUnit.{Unit as CoreUnit, IsValid, file_of, units_mean}
use Rattle.cf_core.specs.Joined.{program_of}
use Rattle.cf_core.specs.Valid.{valid_file}
use Rattle.cf_core_sound.specs.Programs.{is_sound_program}
use Rattle.cf_core_sound.specs.Well.{OfBytes}
use Rattle.cf_sequence.specs.Built.{is_built_file}
use Rattle.cf_file_sound.specs.Files.{is_sound_file}

-- A valid file of built forms that is sound is, joined alone, a sound program.
abbrev pub SoundFiles : Type 0
SoundFiles = (file : CoreFile) → valid_file file ≡ true → is_built_file file ≡ true → is_sound_file file ≡ true → is_sound_program (program_of (file ∷ [])) ≡ true

-- And its meaning is never malformed: for each input of bytes, heap limit, depth limit and bound of ticks there are a trace and an end.
abbrev pub OneFileIsSound : Type 0
OneFileIsSound =
    (core : CoreUnit) → IsValid core → is_built_file (file_of core) ≡ true → is_sound_file (file_of core) ≡ true
    → (input : List ℕ) → OfBytes input → (heap depth n : ℕ) → units_mean (core ∷ []) input heap depth n ≡ None → ⊥
