use Rattle.std.proofs.Common.{◌≡◌, length}
use Rattle.cf_lower_program.specs.Names.{has_local}
use Rattle.cf_lowerable_links.proofs.letters.has_local.Given as goal

abbrev pub invariant-loop-rest : goal.invariant-loop-rest
invariant-loop-rest l = has_local l.rest ≡ has_local l.name

abbrev pub decreases-loop-rest : goal.decreases-loop-rest
decreases-loop-rest l = length l.rest
