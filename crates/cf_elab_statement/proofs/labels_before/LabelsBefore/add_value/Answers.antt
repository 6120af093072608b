use Rattle.std.proofs.Common.{rules, ◌||◌, FitsSigned, w64, to_z-of_z, sym, ap, ◌∙◌}
use Rattle.std.specs.Ordering.{int_eq}
use Rattle.indexmap.specs.IndexSet.{insert_key}
use Rattle.cf_elab.specs.Statement.{same_number}
use Rattle.cf_elab_statement.specs.Labels.{has_value}
use Rattle.cf_elab_statement.proofs.LabelLaws.{value_none, value_more}
use Rattle.cf_elab_statement.proofs.labels_before.LabelsBefore.add_value.Goals as goal

pub returns-in-None-clause-values : goal.returns-in-None-clause-values
returns-in-None-clause-values c = λ q.
    let keys = c.args.self.now.values.keys in
    value_none keys q ∙ ap (λ n. has_value keys q || same_number q n) (sym c.in-None.is)

pub returns-in_ok-insert-in-Some-clause-values : goal.returns-in_ok-insert-in-Some-clause-values
returns-in_ok-insert-in-Some-clause-values c = λ q.
    let keys = c.args.self.now.values.keys in
    let fits : FitsSigned w64 c.in-Some.value = search rules in
    value_more keys c.insert.new.self.keys c.in-Some.value q
    (c.in_ok-insert-in-Some.ensures.keys ∙ ap (insert_key int_eq keys) (to_z-of_z {w = w64} {z = c.in-Some.value} fits))
    ∙ ap (λ n. has_value keys q || same_number q n) (sym c.in-Some.is)
