use Rattle.std.proofs.Common.{◌||◌, option_map, ap, ◌∙◌}
use Rattle.cf_base.specs.Integers.{convert}
use Rattle.cf_elab.specs.Statement.{same_number}
use Rattle.cf_elab_made.specs.Seen.{label_seen}
use Rattle.cf_elab_statement.specs.Labels.{has_value}
use Rattle.cf_elab_statement.proofs.LabelLaws.{none_more, case_more, default_more, number_is}
use Rattle.cf_elab_statement.proofs.labels_before.LabelsBefore.add.Goals as goal

pub returns-in-None : goal.returns-in-None
returns-in-None c = λ l.
    let old = c.args.self.now in
    none_more c.args.kind old.values.keys old.values.keys old.has_default old.has_default (label_seen c.args.label.now) (ap label_seen c.in-None.is) l

pub returns-in_ok-add_value-in-Case : goal.returns-in_ok-add_value-in-Case
returns-in_ok-add_value-in-Case c = λ l.
    let old = c.args.self.now in
    let new = c.add_value.new.self in
    let value = c.in-Case.value in
    case_more c.args.kind old.values.keys new.values.keys old.has_default new.has_default (label_seen c.args.label.now) value (ap label_seen c.in-Case.is)
    (λ q. c.in_ok-add_value-in-Case.ensures.values q
    ∙ ap (λ n. has_value old.values.keys q || same_number q n) (c.convert_number.ensures.value ∙ ap (option_map (convert c.args.kind)) c.number.ensures ∙ number_is c.args.kind value))
    c.add_value.ensures.has_default l

pub returns-in-Default : goal.returns-in-Default
returns-in-Default c = λ l.
    let old = c.args.self.now in
    default_more c.args.kind old.values.keys old.values.keys old.has_default old.has_default (label_seen c.args.label.now) (ap label_seen c.in-Default.is) l
