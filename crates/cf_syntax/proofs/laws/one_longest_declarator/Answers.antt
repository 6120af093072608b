use Rattle.cf_syntax.proofs.Whole.{one-declarator, one-params, one-type_id}
use Rattle.cf_syntax.proofs.laws.one_longest_declarator.Goals as goal

pub returns : goal.returns
returns c = record { declarator = one-declarator; params = one-params; type_id = one-type_id }
