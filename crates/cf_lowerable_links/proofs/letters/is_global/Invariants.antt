use Rattle.std.proofs.Common.{◌≡◌, length}
use Rattle.cf_lower_program.specs.Names.{is_global}
use Rattle.cf_lowerable_links.proofs.letters.is_global.Given as goal

abbrev pub invariant-loop-rest : goal.invariant-loop-rest
invariant-loop-rest l = is_global l.rest ≡ is_global l.name

abbrev pub decreases-loop-rest : goal.decreases-loop-rest
decreases-loop-rest l = length l.rest
