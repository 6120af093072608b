use Rattle.cf_sound.proofs.forms.+given_back.Given as goal

abbrev pub decreases-given_back : goal.decreases-given_back
decreases-given_back l = l.id
