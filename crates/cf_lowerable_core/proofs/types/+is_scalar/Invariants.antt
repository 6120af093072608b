use Rattle.cf_lowerable_core.proofs.types.+is_scalar.Given as goal

abbrev pub decreases-is_scalar : goal.decreases-is_scalar
decreases-is_scalar l = l.id
