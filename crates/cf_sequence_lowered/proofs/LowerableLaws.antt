-- The laws of all tests together.
use Rattle.std.proofs.Common.{◌≡◌, true}
use Rattle.cf_core.specs.Core.{CoreFile}
use Rattle.cf_core.specs.Valid.{valid_file}
use Rattle.cf_sequence.specs.Built.{is_built_file}
use Rattle.cf_sequence.specs.Sequenced.{sequenced_file}
use Rattle.cf_sequence_kept.proofs.Files.{file-keeps}
use Rattle.cf_sequence_valid.proofs.Files.{file-fits}
use Rattle.cf_lower_program.specs.Lowerable.{Lowerable}
use Rattle.cf_sequence_lowered.specs.Lowers.{CoreLowers, Left}
use Rattle.cf_sequence_lowered.proofs.FunctionLaws.{labels-fit, counts-fit, arguments-apart}
use Rattle.cf_sequence_lowered.proofs.KnownLaws.{statics-known}
use Rattle.cf_sequence_lowered.proofs.LiteralLaws.{literals-differ}
use Rattle.cf_sequence_lowered.proofs.NameLaws.{names-lowered}
use Rattle.cf_sequence_lowered.proofs.PlainLaws.{has-no-classes, all-plain, shared-apart, texts-fit, actions-lowered}
use Rattle.cf_sequence_lowered.proofs.ReadyLaws.{functions-are-ready}
use Rattle.cf_sequence_lowered.proofs.TypeLaws.{types-lowered}

pub lowerable : (file : CoreFile) → valid_file file ≡ true → is_built_file file ≡ true → CoreLowers file → Left (sequenced_file file) → Lowerable (sequenced_file file)
lowerable file is built asked left = record {
  valid = file-fits file is built;
  no_classes = has-no-classes file built;
  roles = all-plain file built;
  types = types-lowered file built (CoreLowers.types asked);
  actions = actions-lowered file built (CoreLowers.operators asked);
  names = names-lowered file built (CoreLowers.names asked);
  used = Left.used left;
  statics = statics-known file is built (CoreLowers.statics asked);
  starts = Left.starts left;
  texts = texts-fit file built (CoreLowers.texts asked);
  literals = literals-differ file built (CoreLowers.literals asked);
  labels = labels-fit file built (CoreLowers.labels asked);
  counts = counts-fit file built (CoreLowers.counts asked);
  shared = shared-apart file (CoreLowers.shared asked);
  arguments = arguments-apart file built;
  kept = file-keeps file is built;
  ready = functions-are-ready file is built (CoreLowers.ready asked);
  opened = Left.opened left;
  places = Left.places left;
}
