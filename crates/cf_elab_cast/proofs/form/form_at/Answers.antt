use Rattle.std.proofs.Common.{ap, ◌∙◌}
use Rattle.cf_elab.specs.Operand.{Sort, sort_of}
use Rattle.cf_elab_env.specs.Seen.{sort_seen}
use Rattle.cf_elab_cast.specs.Forms.{plain_form, form_at}
use Rattle.cf_elab_cast.proofs.form.form_at.Goals as goal

pub returns : goal.returns
unfolding form_at
returns c =
    let types = c.args.env.now.types in
    let from = c.sort_of-2.ensures.value ∙ ap (sort_of types) c.ty.ensures in
    c.plain_form.ensures
    ∙ ap (λ (s : Sort). plain_form s (sort_seen c.sort_of-2.result) c.number.result) c.sort_of.ensures.value
    ∙ ap (λ (r : Sort). plain_form (sort_of types c.args.ty) r c.number.result) from
    ∙ ap (plain_form (sort_of types c.args.ty) (sort_of types c.args.value.now.type)) c.number.ensures
