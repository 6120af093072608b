use Rattle.cf_sequence_built.proofs.types.+is_reference.Given as goal

abbrev pub decreases-is_reference : goal.decreases-is_reference
decreases-is_reference l = l.ty
