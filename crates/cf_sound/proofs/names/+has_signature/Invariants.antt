use Rattle.cf_sound.proofs.names.+has_signature.Given as goal

abbrev pub decreases-has_signature : goal.decreases-has_signature
decreases-has_signature l = l.id
