use Rattle.cf_lowerable_types.proofs.types.+has_bytes.Given as goal

abbrev pub decreases-has_bytes : goal.decreases-has_bytes
decreases-has_bytes l = l.id
