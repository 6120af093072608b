use Rattle.cf_lowerable_starts.proofs.types.+is_const_once.Given as goal

abbrev pub decreases-is_const_once : goal.decreases-is_const_once
decreases-is_const_once l = l.id
