use Rattle.std.proofs.Common.{ap, sym, ◌∙◌, slice_get}
use Rattle.cf_classes.specs.ClassTable.{ClassTable}
use Rattle.cf_elab_objects.proofs.LinksLaws.EnumLaws.{its_label}
use Rattle.cf_elab_objects.proofs.links.codes.add_enum.Goals as goal

pub returns : goal.returns
returns c =
    its_label c.args.env.now c.args.number c.enum_label.result.now c.holds.ensures
    (ap (λ (t : ClassTable). slice_get t.enums c.args.number) (sym c.classes.ensures.value) ∙ c.enum_label.ensures) c.as_slice-name.result.now c.args.text.now c.add_label.new.text
    c.as_slice-name.ensures c.in_ok-add_label.ensures
