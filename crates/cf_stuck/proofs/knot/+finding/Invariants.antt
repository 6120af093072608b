use Rattle.std.proofs.Common.{◌+◌, ◌*◌}
use Rattle.cf_stuck.proofs.knot.+finding.Given as goal

abbrev pub decreases-find_inside : goal.decreases-find_inside
decreases-find_inside l = 3 * l.depth + 2

abbrev pub decreases-find_defined : goal.decreases-find_defined
decreases-find_defined l = 3 * l.depth + 1

abbrev pub decreases-find_statement : goal.decreases-find_statement
decreases-find_statement l = 3 * l.depth

abbrev pub decreases-find_class : goal.decreases-find_class
decreases-find_class l = 3 * l.depth
