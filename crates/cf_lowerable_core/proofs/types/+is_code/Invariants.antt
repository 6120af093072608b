use Rattle.cf_lowerable_core.proofs.types.+is_code.Given as goal

abbrev pub decreases-is_code : goal.decreases-is_code
decreases-is_code l = l.id
