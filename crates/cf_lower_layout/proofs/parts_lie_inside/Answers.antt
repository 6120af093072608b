use Rattle.cf_lower_layout.proofs.Parts.{route-inside}
use Rattle.cf_lower_layout.proofs.Elements.{points-inside}
use Rattle.cf_lower_layout.proofs.parts_lie_inside.Goals as goal

pub returns : goal.returns
returns c = record { parts = route-inside; ends = points-inside }
