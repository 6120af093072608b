use Rattle.cf_sound.proofs.types.+is_reference.Given as goal

abbrev pub decreases-is_reference : goal.decreases-is_reference
decreases-is_reference l = l.id
