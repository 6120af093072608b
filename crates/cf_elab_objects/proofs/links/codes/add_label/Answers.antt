use Rattle.std.proofs.Common.{sym, ◌∙◌}
use Rattle.cf_elab_objects.proofs.LinksLaws.EnumLaws.{no_label, empty}
use Rattle.cf_elab_objects.proofs.links.codes.add_label.Goals as goal

pub returns-else-not-is_empty : goal.returns-else-not-is_empty
returns-else-not-is_empty c = no_label c.args.name.now c.args.text.now (empty c.args.name.now (sym c.if-not-is_empty.false ∙ c.is_empty.ensures))
