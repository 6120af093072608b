use Rattle.std.proofs.Common.{ap, sym, ◌∙◌}
use Rattle.cf_core.specs.FromUnit.{tables_of}
use Rattle.cf_types.specs.declared.ty.Ty.TheVariants as ty
use Rattle.cf_lower_layout.specs.Layout.{has_bytes}
use Rattle.cf_lowerable_core.proofs.Entries.{by_form, bytes_by_others}
use Rattle.cf_lowerable_core.proofs.types.+has_bytes.Goals as goal

pub returns-in-Class : goal.returns-in-Class
returns-in-Class t c =
    by_form (tables_of c.args.unit.now) has_bytes c.args.id c.entry.result (ty.Class _) c.entry.ensures.value c.in-Class.is

pub returns-in-Const : goal.returns-in-Const
returns-in-Const t c =
    c.has_bytes-in-Const.ensures ∙ by_form (tables_of c.args.unit.now) has_bytes c.args.id c.entry.result (ty.Const _) c.entry.ensures.value c.in-Const.is

pub returns-in_default : goal.returns-in_default
returns-in_default t c =
    bytes_by_others (tables_of c.args.unit.now) c.entry.result c.in_default.not-Class c.in_default.not-Array c.in_default.not-Const ∙ sym (ap has_bytes c.entry.ensures.value)
