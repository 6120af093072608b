use Rattle.cf_core.specs.FromTypes.{type_of}
use Rattle.cf_lowerable_ready.proofs.TakeLaws.{taken_by}
use Rattle.cf_lowerable_ready.proofs.takes.type_takes.Goals as goal

pub returns : goal.returns
returns c = taken_by (type_of c.args.tables.now c.args.id) _ _ _ _ c.inner-t.ensures.same c.inner-t.ensures.form c.in_ok-takes.ensures
