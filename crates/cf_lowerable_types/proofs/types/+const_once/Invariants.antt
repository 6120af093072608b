use Rattle.cf_lowerable_types.proofs.types.+const_once.Given as goal

abbrev pub decreases-const_once : goal.decreases-const_once
decreases-const_once l = l.id
