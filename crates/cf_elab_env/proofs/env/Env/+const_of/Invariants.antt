use Rattle.cf_elab_env.proofs.env.Env.+const_of.Given as goal

abbrev pub decreases-const_of : goal.decreases-const_of
decreases-const_of l = l.ty
