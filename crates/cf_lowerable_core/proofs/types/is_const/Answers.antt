use Rattle.std.proofs.Common.{ap, sym, ◌∙◌}
use Rattle.cf_core.specs.FromUnit.{tables_of}
use Rattle.cf_types.specs.declared.ty.Ty.TheVariants as ty
use Rattle.cf_core.specs.Places.{is_const}
use Rattle.cf_lowerable_core.proofs.Entries.{by_form, no_const}
use Rattle.cf_lowerable_core.proofs.types.is_const.Goals as goal

pub returns-in-Const : goal.returns-in-Const
returns-in-Const c =
    by_form (tables_of c.args.unit.now) is_const c.args.id c.entry.result (ty.Const _) c.entry.ensures.value c.in-Const.is

pub returns-in_default : goal.returns-in_default
returns-in_default c =
    no_const (tables_of c.args.unit.now) c.entry.result c.in_default.not-Const ∙ sym (ap is_const c.entry.ensures.value)
