use Rattle.std.proofs.Common.{rules, to_z-of_z, w64, FitsSigned}
use Rattle.cf_lowerable_types.specs.Kinds.{has_kind}
use Rattle.cf_lowerable_places.proofs.Giving.{constant_fits}
use Rattle.cf_lowerable_places.proofs.setting.constant_kinds.Goals as goal

pub returns : goal.returns
returns c =
    let fits : FitsSigned w64 c.args.value = search rules in
    constant_fits c.args.value _ (has_kind c.kinds_fitting.result) c.kinds_fitting.ensures (to_z-of_z {w = w64} {z = c.args.value} fits)
