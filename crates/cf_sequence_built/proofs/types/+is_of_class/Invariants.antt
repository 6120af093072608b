use Rattle.cf_sequence_built.proofs.types.+is_of_class.Given as goal

abbrev pub decreases-is_of_class : goal.decreases-is_of_class
decreases-is_of_class l = l.ty
