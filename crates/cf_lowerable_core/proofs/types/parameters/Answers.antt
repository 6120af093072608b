use Rattle.std.proofs.Common.{ap, map, sym, ◌∙◌}
use Rattle.cf_core.specs.FromTypes.{type_of}
use Rattle.cf_core.specs.FromUnit.{tables_of}
use Rattle.cf_core.specs.Types.{parameters}
use Rattle.cf_lowerable_core.proofs.Entries.{parameters_by_fun, no_parameters}
use Rattle.cf_lowerable_core.proofs.types.parameters.Goals as goal

pub returns-in-Fun : goal.returns-in-Fun
returns-in-Fun c =
    ap (map (type_of (tables_of c.args.unit.now))) c.as_slice.ensures
    ∙ parameters_by_fun (tables_of c.args.unit.now) c.args.id _ c.entry.result c.fun.result.now c.entry.ensures.value c.in-Fun.is c.fun.ensures

pub returns-in_default : goal.returns-in_default
returns-in_default c = no_parameters (tables_of c.args.unit.now) c.entry.result c.in_default.not-Fun ∙ sym (ap parameters c.entry.ensures.value)
