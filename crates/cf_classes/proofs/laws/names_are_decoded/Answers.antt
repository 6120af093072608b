use Rattle.cf_classes.proofs.Decoded.{is_decoding}
use Rattle.cf_classes.proofs.laws.names_are_decoded.Goals as goal

pub returns : goal.returns
returns c = is_decoding
