use Rattle.cf_lowerable_types.specs.Kinds.{has_kind}
use Rattle.cf_lowerable_places.proofs.Giving.{number_fits}
use Rattle.cf_lowerable_places.proofs.content.kinds_of_sort.Goals as goal

pub returns-in-Number : goal.returns-in-Number
returns-in-Number c =
    λ tables. number_fits tables c.args.scalar.now c.in-Number.kind (has_kind c.kinds_within.result) c.in-Number.is c.kinds_within.ensures
