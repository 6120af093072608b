use Rattle.std.proofs.Common.{◌∙◌}
use Rattle.cf_lower_same.proofs.LiteralTypes.{void_first}
use Rattle.cf_lowerable_starts.proofs.functions.is_nothing.Goals as goal

pub returns : goal.returns
returns c = c.is_void_form.ensures ∙ void_first c.args.tables.now c.args.id c.form_of.result c.form_of.ensures.is c.form_of.ensures.named
