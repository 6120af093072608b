use Rattle.std.proofs.Common.{◌+◌, ◌*◌}
use Rattle.cf_parse_unit.specs.Ranks.{rank}
use Rattle.cf_parse_unit.proofs.knot.+knot.Given as goal

abbrev pub decreases-inside : goal.decreases-inside
decreases-inside l = 3 * l.depth + rank l.wanted

abbrev pub decreases-defining : goal.decreases-defining
decreases-defining l = 3 * l.depth + 1
