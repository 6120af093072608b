use Rattle.cf_lower_begun.proofs.Begin.{statics-begin}
use Rattle.cf_lower_begun.proofs.static_objects_begin.Goals as goal

pub returns : goal.returns
returns c = statics-begin
