use Rattle.std.proofs.Common.{◌∙◌}
use Rattle.cf_lowerable_open.proofs.Alone.{none_there}
use Rattle.cf_lowerable_open.proofs.heads.is_nothing.Goals as goal

pub returns : goal.returns
returns c = c.is_empty.ensures ∙ none_there c.args.x.now c.args.all.now
