use Rattle.cf_lowerable_core.specs.Looks.{Looked}
use Rattle.cf_lowerable.specs.Remaining.{Remaining}
use Rattle.cf_lowerable.specs.Tested.{CoreTested}
use Rattle.cf_lowerable.proofs.laws.tested_files_are_lowerable.Goals as goal

pub returns : goal.returns
returns c = λ file is built asked left. record {
  valid = c.sequenced_files_are_valid.ensures file is built;
  no_classes = c.sequenced_files_have_no_classes.ensures file built;
  roles = c.sequenced_functions_are_plain.ensures file built;
  types = c.sequenced_types_are_lowered.ensures file built (Looked.types (CoreTested.looked asked));
  actions = c.sequenced_actions_are_lowered.ensures file built (Looked.operators (CoreTested.looked asked));
  names = Remaining.names left;
  used = Remaining.used left;
  statics = Remaining.statics left;
  starts = Remaining.starts left;
  texts = c.sequenced_texts_fit.ensures file built (Looked.texts (CoreTested.looked asked));
  literals = c.sequenced_literals_differ.ensures file built (CoreTested.literals asked);
  labels = c.sequenced_labels_fit.ensures file built (Looked.labels (CoreTested.looked asked));
  counts = c.sequenced_counts_fit.ensures file built (Looked.counts (CoreTested.looked asked));
  shared = c.sequenced_names_are_shared_or_local.ensures file (Looked.shared (CoreTested.looked asked));
  arguments = c.sequenced_arguments_are_apart.ensures file built;
  kept = c.sequenced_registers_are_kept.ensures file is built;
  ready = Remaining.ready left;
  opened = Remaining.opened left;
  places = Remaining.places left;
}
