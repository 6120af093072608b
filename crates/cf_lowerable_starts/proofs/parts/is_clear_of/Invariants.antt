use Rattle.std.proofs.Common.{◌≡◌, length}
use Rattle.cf_lower_program.specs.Alike.{clear_of}
use Rattle.cf_lowerable_starts.specs.Telling.{parts_in}
use Rattle.cf_lowerable_starts.proofs.parts.is_clear_of.Given as goal

abbrev pub invariant-loop-part : goal.invariant-loop-part
invariant-loop-part l = clear_of l.start l.size (parts_in l.rest) ≡ clear_of l.start l.size (parts_in l.parts)

abbrev pub decreases-loop-part : goal.decreases-loop-part
decreases-loop-part l = length l.rest
