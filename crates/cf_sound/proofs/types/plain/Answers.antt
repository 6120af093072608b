use Rattle.std.proofs.Common.{ap, sym, ◌∙◌}
use Rattle.cf_core.specs.FromUnit.{tables_of}
use Rattle.cf_types.specs.declared.ty.Ty.TheVariants as ty
use Rattle.cf_core.specs.Types.{plain}
use Rattle.cf_sound.proofs.Entries.{by_form, plain_by_others}
use Rattle.cf_sound.proofs.types.plain.Goals as goal

pub returns-in-Const : goal.returns-in-Const
returns-in-Const c = by_form (tables_of c.args.unit.now) plain c.args.id c.entry.result (ty.Const _) c.entry.ensures.value c.in-Const.is

pub returns-in_default : goal.returns-in_default
returns-in_default c =
    c.entry.ensures.value ∙ sym (plain_by_others (tables_of c.args.unit.now) c.entry.result c.in_default.not-Const) ∙ sym (ap plain c.entry.ensures.value)
