use Rattle.cf_lower_layout.proofs.Parts.{scalars-placed}
use Rattle.cf_lower_layout.proofs.scalars_lie_apart.Goals as goal

pub returns : goal.returns
returns c = scalars-placed
