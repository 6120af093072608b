use Rattle.cf_lowerable_starts.proofs.walk.act.Goals as goal

pub returns : goal.returns
returns c = record { alike = c.in_ok-is.ensures; known = c.in_ok-add_parts.ensures.known; told = c.in_ok-add_parts.ensures.told }
