use Rattle.std.proofs.Common.{List, sym, ap, ◌∙◌}
use Rattle.cf_core.specs.declared.node.Core.{Core}
use Rattle.cf_lower_program.specs.Labels.{one_kind}
use Rattle.cf_sequence_lowered.specs.Labels.{labels_agree}
use Rattle.cf_sequence_lowered.specs.Nodes.{core_labels}
use Rattle.cf_core_nodes.specs.Views.{view, viewed}
use Rattle.cf_lowerable_core.proofs.LabelLaws.{switch_view}
use Rattle.cf_lowerable_core.proofs.nodes.labels_agree.Goals as goal

pub returns-in-Switch : goal.returns-in-Switch
returns-in-Switch c = λ tables.
    c.are_of_one_kind.ensures tables
    ∙ ap (λ (l : List Core). one_kind (core_labels (viewed tables l))) c.as_slice.ensures
    ∙ sym
    (ap (λ (e : Core). labels_agree (view tables e)) c.in-Switch.is
    ∙ ap labels_agree (switch_view tables c.in-Switch.at c.in-Switch.operand c.in-Switch.body))
