use Rattle.cf_lowerable_types.specs.Kinds.{has_kind}
use Rattle.cf_lowerable_places.proofs.Giving.{comparison_fits, operator_fits}
use Rattle.cf_lowerable_places.proofs.setting.operated_kinds.Goals as goal

pub returns-then-compares : goal.returns-then-compares
returns-then-compares c =
    comparison_fits c.args.op c.args.kind (has_kind c.all_kinds.result) c.compares.result c.compares.ensures c.if-compares.true c.all_kinds.ensures

pub returns-else-compares : goal.returns-else-compares
returns-else-compares c =
    operator_fits c.args.op c.args.kind (has_kind c.kinds_within.result) c.compares.result c.compares.ensures c.if-compares.false c.kinds_within.ensures
