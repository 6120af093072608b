use Rattle.cf_elab_limits.proofs.bytes.+accepted_bytes.Given as goal

abbrev pub decreases-accepted_bytes : goal.decreases-accepted_bytes
decreases-accepted_bytes l = l.ty
