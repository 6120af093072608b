use Rattle.std.proofs.Common.{sym, ◌∙◌}
use Rattle.cf_elab_call.proofs.ResultLaws.{to_object}
use Rattle.cf_elab_call.proofs.results.returned.Goals as goal

pub returns-in-Ref-clause-made : goal.returns-in-Ref-clause-made
returns-in-Ref-clause-made c =
    to_object c.args.env.now.types c.args.at c.args.returns c.args.call c.in-Ref.to c.place.result (sym c.type_at.ensures ∙ c.in-Ref.is) c.place.ensures
