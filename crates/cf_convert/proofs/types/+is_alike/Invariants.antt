use Rattle.cf_convert.proofs.types.+is_alike.Given as goal

abbrev pub decreases-is_alike : goal.decreases-is_alike
decreases-is_alike l = l.id
