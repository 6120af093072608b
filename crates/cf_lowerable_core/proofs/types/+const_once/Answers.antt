use Rattle.std.proofs.Common.{ap, sym, ◌∙◌}
use Rattle.cf_core.specs.FromUnit.{tables_of}
use Rattle.cf_types.specs.declared.ty.Ty.TheVariants as ty
use Rattle.cf_lower_layout.specs.Layout.{const_once}
use Rattle.cf_lowerable_core.proofs.Entries.{by_form, once_by_others}
use Rattle.cf_lowerable_core.proofs.types.+const_once.Goals as goal

pub returns-in-Array : goal.returns-in-Array
returns-in-Array t c =
    c.const_once.ensures ∙ by_form (tables_of c.args.unit.now) const_once c.args.id c.entry.result (ty.Array _ _) c.entry.ensures.value c.in-Array.is

pub returns-in_default : goal.returns-in_default
returns-in_default t c =
    once_by_others (tables_of c.args.unit.now) c.entry.result c.in_default.not-Array c.in_default.not-Const ∙ sym (ap const_once c.entry.ensures.value)
