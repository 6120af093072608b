use Rattle.cf_lowerable_types.specs.Kinds.{has_kind}
use Rattle.cf_lowerable_places.specs.Contents.{known}
use Rattle.cf_lowerable_places.proofs.Giving.{change_fits, moved_fits}
use Rattle.cf_lowerable_places.proofs.setting.changed_kinds.Goals as goal

pub returns-in-Arithmetic : goal.returns-in-Arithmetic
returns-in-Arithmetic c =
    λ tables. change_fits c.args.change _ _ c.in-Arithmetic.to (known tables c.args.value.now) (has_kind c.kinds_within.result) c.in-Arithmetic.is c.kinds_within.ensures

pub returns-in-Moved : goal.returns-in-Moved
returns-in-Moved c =
    λ tables. moved_fits c.args.change _ (known tables c.args.value.now) (has_kind c.kinds_in.result) c.in-Moved.is (c.kinds_in.ensures tables)
