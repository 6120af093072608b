use Rattle.cf_elab_operand.proofs.sizes.+bytes_in.Given as goal

abbrev pub decreases-bytes_in : goal.decreases-bytes_in
decreases-bytes_in l = l.ty
