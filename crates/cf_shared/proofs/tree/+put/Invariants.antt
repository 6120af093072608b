use Rattle.cf_shared.proofs.tree.+put.Given as goal

abbrev pub decreases-put : goal.decreases-put
decreases-put g l = l.index
