use Rattle.cf_syntax.proofs.Whole.{one-commas, one-assign, one-condition}
use Rattle.cf_syntax.proofs.laws.one_longest_expression.Goals as goal

pub returns : goal.returns
returns c = record { commas = one-commas; assign = one-assign; condition = one-condition }
