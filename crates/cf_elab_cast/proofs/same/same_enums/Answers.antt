use Rattle.std.proofs.Common.{◌≡◌, List, ℕ, None, bytes_eq, ap, ◌∙◌}
use Rattle.cf_classes.specs.declared.label.Label.{Label}
use Rattle.cf_elab_env.proofs.Sorts.{at_place}
use Rattle.cf_elab_cast.proofs.EnumNames.{same_by_names}
use Rattle.cf_elab_cast.proofs.same.same_enums.Goals as goal

pub returns : goal.returns
returns c =
    let env = c.args.env.now in
    let l = c.enum_label.result.now in
    let k = c.enum_label-2.result.now in
    let p = rw c.classes-classes.ensures.value at c.enum_label.ensures in
    let q = rw c.classes-classes.ensures.value at c.enum_label-2.ensures in
    let a = at_place (λ (l : Label). l.outer ≡ None) env.classes.enums c.args.e l c.classes-classes.ensures.no_outer p in
    let b = at_place (λ (l : Label). l.outer ≡ None) env.classes.enums c.args.f k c.classes-classes.ensures.no_outer q in
    c.eq.ensures
    ∙ ap (λ (x : List ℕ). bytes_eq x c.as_slice-2.result.now) c.as_slice.ensures
    ∙ ap (bytes_eq l.name) c.as_slice-2.ensures
    ∙ same_by_names env c.args.e c.args.f l k p q a b
