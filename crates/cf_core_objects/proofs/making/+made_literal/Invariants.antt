use Rattle.std.specs.Prelude.{length}
use Rattle.cf_core_objects.proofs.making.+made_literal.Given as goal

abbrev pub decreases-made_literal : goal.decreases-made_literal
decreases-made_literal l = length l.literals.now
