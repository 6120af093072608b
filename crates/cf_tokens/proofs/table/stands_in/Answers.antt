use Rattle.std.proofs.Common.{◌∙◌}
use Rattle.cf_tokens.proofs.Tables.{stands_in-map}
use Rattle.cf_tokens.proofs.table.stands_in.Goals as goal

pub returns : goal.returns
returns c = c.any.ensures ∙ stands_in-map c.args.table.now c.args.spelling.now
