use Rattle.cf_lowerable_starts.proofs.EntryLaws.{refers_none, refers_some}
use Rattle.cf_lowerable_starts.proofs.types.is_reference.Goals as goal

pub returns-in-Some : goal.returns-in-Some
returns-in-Some c = refers_some c.args.tables.now c.args.id c.referred.result _ c.referred.ensures c.in-Some.is

pub returns-in-None : goal.returns-in-None
returns-in-None c = refers_none c.args.tables.now c.args.id c.referred.result c.referred.ensures c.in-None.is
