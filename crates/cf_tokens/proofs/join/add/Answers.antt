use Rattle.cf_tokens.proofs.Cuts.{add-last}
use Rattle.cf_tokens.proofs.join.add.Goals as goal

pub returns-in-Some : goal.returns-in-Some
returns-in-Some c = rw (c.in-Some.ensures.items, add-last) c.push_beside.ensures
