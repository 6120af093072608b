use Rattle.cf_lower_points.proofs.nothing_runs_where_control_does_not_come.Goals as goal

pub returns : goal.returns
returns c z around h st q n k le g s t w at = absurd at.standing
