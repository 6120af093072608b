use Rattle.std.proofs.Common.{sym, ◌∙◌}
use Rattle.cf_elab_objects.proofs.LinksLaws.CodeLaws.{no_signature}
use Rattle.cf_elab_objects.proofs.LinksLaws.EnumLaws.{empty}
use Rattle.cf_elab_objects.proofs.links.functions.add_signature.Goals as goal

pub returns-in_ok-add : goal.returns-in_ok-add
returns-in_ok-add c =
    no_signature c.args.env.now c.holds.ensures c.args.ty c.requires c.args.text.now c.add.new.self c.params_at.result.now c.params_at.ensures.value
    (empty c.params_at.result.now (sym c.if-is_empty.true ∙ c.is_empty.ensures)) c.in_ok-add.ensures
