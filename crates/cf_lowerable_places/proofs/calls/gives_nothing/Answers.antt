use Rattle.cf_lowerable_places.proofs.CallLaws.{none_at}
use Rattle.cf_lowerable_places.proofs.calls.gives_nothing.Goals as goal

pub returns : goal.returns
returns c = none_at _ _ c.is_no_sort.result (c.is_no_sort.ensures c.args.tables.now) c.result_sort.ensures
