use Rattle.std.proofs.Common.{ap, ◌∙◌}
use Rattle.cf_elab_cast.specs.Forms.{target_of, target_at}
use Rattle.cf_elab_cast.proofs.form.target_at.Goals as goal

pub returns-clause-value : goal.returns-clause-value
unfolding target_at
returns-clause-value c = c.target_of.ensures.value ∙ ap target_of c.sort_of.ensures.value
