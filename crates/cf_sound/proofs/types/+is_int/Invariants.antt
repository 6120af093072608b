use Rattle.cf_sound.proofs.types.+is_int.Given as goal

abbrev pub decreases-is_int : goal.decreases-is_int
decreases-is_int l = l.id
