use Rattle.std.proofs.Common.{ap, ◌∙◌}
use Rattle.cf_elab_cast.specs.Forms.{zero_form, zero_form_at}
use Rattle.cf_elab_cast.proofs.form.zero_form_at.Goals as goal

pub returns : goal.returns
unfolding zero_form_at
returns c = c.zero_form.ensures ∙ ap zero_form c.sort_of.ensures.value
