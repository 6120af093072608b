use Rattle.std.proofs.Common.{◌≡◌, length}
use Rattle.cf_lower_program.specs.Names.{ends_as_file}
use Rattle.cf_lowerable_links.proofs.letters.ends_as_file.Given as goal

abbrev pub invariant-loop-rest : goal.invariant-loop-rest
invariant-loop-rest l = ends_as_file l.rest ≡ ends_as_file l.name

abbrev pub decreases-loop-rest : goal.decreases-loop-rest
decreases-loop-rest l = length l.rest
