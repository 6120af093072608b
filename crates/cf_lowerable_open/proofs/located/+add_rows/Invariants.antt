use Rattle.cf_lowerable_open.proofs.located.+add_rows.Given as goal

abbrev pub decreases-add_rows : goal.decreases-add_rows
decreases-add_rows l = l.id
