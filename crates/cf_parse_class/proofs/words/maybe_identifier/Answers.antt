use Rattle.cf_parse_class.proofs.Read.{gives-identifier}
use Rattle.cf_parse_class.proofs.words.maybe_identifier.Goals as goal

pub returns : goal.returns
returns c = gives-identifier _ _ _ c.identifier_read.ensures
