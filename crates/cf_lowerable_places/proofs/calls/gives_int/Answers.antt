use Rattle.cf_lowerable_places.proofs.CallLaws.{int_at}
use Rattle.cf_lowerable_places.proofs.calls.gives_int.Goals as goal

pub returns : goal.returns
returns c = int_at _ _ c.is_an_int.result (c.is_an_int.ensures c.args.tables.now) c.result_sort.ensures
