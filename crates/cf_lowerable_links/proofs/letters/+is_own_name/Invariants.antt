use Rattle.std.proofs.Common.{length}
use Rattle.cf_lowerable_links.proofs.letters.+is_own_name.Given as goal

abbrev pub decreases-is_own_name : goal.decreases-is_own_name
decreases-is_own_name l = length l.front.now
