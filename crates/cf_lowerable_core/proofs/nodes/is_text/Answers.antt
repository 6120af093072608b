use Rattle.std.proofs.Common.{◌∙◌}
use Rattle.cf_lowerable_core.proofs.TextLaws.{text_ends}
use Rattle.cf_lowerable_core.proofs.nodes.is_text.Goals as goal

pub returns : goal.returns
returns c = c.ends_in_zero.ensures ∙ text_ends c.args.bytes.now c.type_inv.bytes
