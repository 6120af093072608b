use Rattle.cf_lower_turns.specs.Scene.{fixed_in}
use Rattle.cf_lower_leaves.proofs.Narrowing.{narrows}
use Rattle.cf_lower_leaves.proofs.turns_narrow.Goals as goal

pub returns : goal.returns
returns c z g h less = narrows (fixed_in z) z.body g h less
