-- A text that agrees with what a file means runs as meant, where the file has a meaning: it has a `main`, since the text's unit links.
use Rattle.std.proofs.Common.{◌≡◌, ◌<◌, ℕ, List, [], ◌∷◌, Option, Some, None, refl}
use Rattle.std.proofs.lemmas.List.Elements.{All-head, All-tail}
use Rattle.cf_base.specs.World.{Outcome}
use Rattle.cf_core.specs.FromUnit.{Unit as CoreUnit, units_mean}
use Rattle.cf_core_sound.specs.Well.{OfBytes}
use Rattle.cf_file_sound.specs.Laws.{OneFileIsSound}
use Rattle.cf_lower_place.specs.Input.{IsInput}
use Rattle.cf_lower_program.specs.Agrees.{AgreesWith}
use Rattle.cf_sequence_unit.proofs.Units.{built-file}
use Rattle.cf_one_file.specs.Means.{LowerableFileMeans, IsMeant, LowerableFileRunsAsMeant, LinkedFilesHaveMain}
use Rattle.cf_one_file.proofs.Runs.{OneUnit, linked-alone}

pub of-bytes : (input : List ℕ) → IsInput input → OfBytes input
of-bytes [] all = tt
of-bytes (b ∷ rest) all = (All-head (λ b. b < 256) b rest all, of-bytes rest (All-tail (λ b. b < 256) b rest all))

module _ (core : CoreUnit) (input : List ℕ) (heap depth n : ℕ) (end : Outcome) where
  meant : (o : Option Outcome) → units_mean (core ∷ []) input heap depth n ≡ o → (o ≡ None → ⊥) → AgreesWith o end → IsMeant core input heap depth n end
  meant None same some agrees = absurd (some refl)
  meant (Some x) same some agrees = record { meant = x; means = same; agrees = agrees }

pub runs-as-meant : OneUnit → ((input : List ℕ) → IsInput input → OfBytes input) → LowerableFileMeans → OneFileIsSound → LinkedFilesHaveMain → LowerableFileRunsAsMeant
runs-as-meant one bytes-are means sound main core unit text valid translated lowerable ok input bytes heap depth n end m =
    let linked = linked-alone one text unit (translated.is_text lowerable).spelled m.units m.program m.read m.linked in
    meant core input heap depth n end (units_mean (core ∷ []) input heap depth n) refl
    (sound core valid (built-file core translated.sequenced.built) (ok (main core unit text m.program valid translated lowerable linked)) input (bytes-are input bytes) heap depth n)
    (means core unit text valid translated lowerable input bytes heap depth n end m)
