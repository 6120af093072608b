use Rattle.cf_tokens.proofs.Longest.{are_longest}
use Rattle.cf_tokens.proofs.laws.longest_tokens.Goals as goal

pub returns : goal.returns
returns c = are_longest
