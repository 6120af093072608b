use Rattle.cf_plain_finished.proofs.Statements.{named-kept}
use Rattle.cf_plain_finished.proofs.nothing_is_to_be_destroyed.Goals as goal

pub returns : goal.returns
returns c = named-kept
