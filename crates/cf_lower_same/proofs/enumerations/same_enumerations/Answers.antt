use Rattle.std.proofs.Common.{List, ℕ, bytes_eq, ap, ◌∙◌}
use Rattle.cf_lower_same.proofs.EnumNames.{same_by_names}
use Rattle.cf_lower_same.proofs.enumerations.same_enumerations.Goals as goal

pub returns-in-None-outer : goal.returns-in-None-outer
returns-in-None-outer c =
    let l = c.enum_label-first.result.now in
    let k = c.enum_label-second.result.now in
    let p = rw c.classes-classes.ensures.classes at c.enum_label-first.ensures in
    let q = rw c.classes-classes.ensures.classes at c.enum_label-second.ensures in
    c.eq.ensures
    ∙ ap (λ (x : List ℕ). bytes_eq x c.as_slice-in-None-outer.result.now) c.as_slice.ensures
    ∙ ap (bytes_eq l.name) c.as_slice-in-None-outer.ensures
    ∙ same_by_names c.args.tables.now c.args.number c.args.other l k p q c.in-None.is c.in-None-outer.is
