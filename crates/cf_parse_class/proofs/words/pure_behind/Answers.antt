use Rattle.cf_parse_class.proofs.Read.{gives-pure}
use Rattle.cf_parse_class.proofs.words.pure_behind.Goals as goal

pub returns : goal.returns
returns c = gives-pure _ _ _ c.pure_read.ensures
