use Rattle.cf_frame.proofs.sizes.+size.Given as goal

abbrev pub decreases-size : goal.decreases-size
decreases-size l = l.ty
