use Rattle.cf_parse_class.proofs.Read.{gives-bases}
use Rattle.cf_parse_class.proofs.bases.bases_behind.Goals as goal

pub returns : goal.returns
returns c = gives-bases _ _ _ _ c.bases_read.ensures
