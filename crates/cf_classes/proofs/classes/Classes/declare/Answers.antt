use Rattle.std.proofs.Common.{◌<◌, length, sym, subst}
use Rattle.std.specs.Option.{ForSome}
use Rattle.cf_classes.specs.ClassTable.{ClassTable}
use Rattle.cf_classes.specs.Fit.{IsClassTable}
use Rattle.cf_classes.proofs.ClassTables.{with_label}
use Rattle.cf_classes.proofs.classes.Classes.declare.Goals as goal

pub invariant_of-self-2 : goal.invariant_of-self-2
invariant_of-self-2 c =
    let held : ClassTable = record { labels = c.self.inside.labels.items; enums = c.self.inside.enums.items; defined = c.self.inside.defined.entries } in
    subst (λ l. IsClassTable (record { labels = l; enums = held.enums; defined = held.defined })) (sym c.in_ok-number.ensures.ok)
    (with_label held c.args.label c.self.invariant
    (subst (λ (t : ClassTable). ForSome c.args.label.outer (λ o. o < length t.labels)) (sym c.self.view_is) c.requires))
