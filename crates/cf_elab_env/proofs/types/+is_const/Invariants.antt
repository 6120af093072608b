use Rattle.cf_elab_env.proofs.types.+is_const.Given as goal

abbrev pub decreases-is_const : goal.decreases-is_const
decreases-is_const l = l.id
