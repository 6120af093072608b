use Rattle.std.proofs.Common.{ap, sym, not, ◌∙◌}
use Rattle.cf_core.specs.FromUnit.{tables_of}
use Rattle.cf_types.specs.declared.ty.Ty.TheVariants as ty
use Rattle.cf_lower_kept.specs.Ready.{names_well}
use Rattle.cf_lowerable_core.proofs.Entries.{by_form, well_by_others}
use Rattle.cf_lowerable_core.proofs.types.names_well.Goals as goal

pub returns-in-Const : goal.returns-in-Const
returns-in-Const c =
    ap not c.is_reference.ensures ∙ by_form (tables_of c.args.unit.now) names_well c.args.id c.entry.result (ty.Const _) c.entry.ensures.value c.in-Const.is

pub returns-in_default : goal.returns-in_default
returns-in_default c =
    well_by_others (tables_of c.args.unit.now) c.entry.result c.in_default.not-Const ∙ sym (ap names_well c.entry.ensures.value)
