use Rattle.std.proofs.Common.{◌∙◌}
use Rattle.cf_tokens.proofs.Tables.{index_in-map}
use Rattle.cf_tokens.proofs.table.index_in.Goals as goal

pub returns-clause-number : goal.returns-clause-number
returns-clause-number c = c.position.ensures.number ∙ index_in-map c.args.table.now c.args.spelling.now
