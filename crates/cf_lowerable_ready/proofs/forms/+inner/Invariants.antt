use Rattle.cf_lowerable_ready.proofs.forms.+inner.Given as goal

abbrev pub decreases-inner : goal.decreases-inner
decreases-inner l = l.id
