use Rattle.std.specs.Prelude.{length}
use Rattle.cf_elab_shape.proofs.shapes.functions.+add_types.Given as goal

abbrev pub decreases-add_types : goal.decreases-add_types
decreases-add_types l = length l.parameters.now
