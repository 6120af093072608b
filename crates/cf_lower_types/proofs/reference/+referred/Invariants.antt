use Rattle.cf_lower_types.proofs.reference.+referred.Given as goal

abbrev pub decreases-referred : goal.decreases-referred
decreases-referred l = l.id
