-- The meaning of one file, where programs are sound.
use Rattle.cf_core.specs.FromUnit.{file_of}
use Rattle.cf_core.specs.Joined.{program_of}
use Rattle.cf_core_sound.specs.Laws.{ProgramsAreSound}
use Rattle.cf_file_sound.specs.Laws.{OneFileIsSound}
use Rattle.cf_file_sound.proofs.Files.{sound-files, nothing-more}
use Rattle.std.proofs.Common.{[], ◌∷◌}

pub one-file : ProgramsAreSound → OneFileIsSound
one-file programs core valid built sound input bytes heap depth n none =
    let alone = nothing-more (file_of core) built in
    programs (program_of (file_of core ∷ [])) alone.0 alone.1 (sound-files (file_of core) valid.file built sound) input bytes heap depth n none
