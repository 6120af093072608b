use Rattle.cf_sound.proofs.types.+is_void.Given as goal

abbrev pub decreases-is_void : goal.decreases-is_void
decreases-is_void l = l.id
