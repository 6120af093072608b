use Rattle.std.proofs.Common.{length}
use Rattle.cf_core_node.proofs.defined.+same_types.Given as goal

abbrev pub decreases-same_types : goal.decreases-same_types
decreases-same_types l = length l.a.now
