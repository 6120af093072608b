use Rattle.cf_core.specs.FromTypes.{type_of}
use Rattle.cf_lowerable_ready.proofs.GivenLaws.{made_by}
use Rattle.cf_lowerable_ready.proofs.pointers.converted.Goals as goal

pub returns : goal.returns
returns c = made_by (type_of c.args.tables.now c.args.id) _ _ _ _ c.inner-t.ensures.same c.inner-t.ensures.form c.in_ok-made.ensures
