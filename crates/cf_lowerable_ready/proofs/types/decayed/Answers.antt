use Rattle.cf_core.specs.FromTypes.{type_of}
use Rattle.cf_lowerable_ready.proofs.TypeLaws.{decayed_by}
use Rattle.cf_lowerable_ready.proofs.types.decayed.Goals as goal

pub returns : goal.returns
returns c = decayed_by (type_of c.args.tables.now c.args.id) _ _ c.inner-t.ensures.same c.inner-t.ensures.form _ c.decayed_in.ensures
