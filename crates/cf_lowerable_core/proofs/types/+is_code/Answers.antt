use Rattle.std.proofs.Common.{ap, sym, ◌∙◌}
use Rattle.cf_core.specs.FromUnit.{tables_of}
use Rattle.cf_types.specs.declared.ty.Ty.TheVariants as ty
use Rattle.cf_lower_kept.specs.Ready.{is_code}
use Rattle.cf_lowerable_core.proofs.Entries.{by_form, code_by_fun, no_code}
use Rattle.cf_lowerable_core.proofs.types.+is_code.Goals as goal

pub returns-in-Fun : goal.returns-in-Fun
returns-in-Fun t c =
    code_by_fun (tables_of c.args.unit.now) c.args.id _ c.entry.result c.entry.ensures.value c.entry.ensures.named c.in-Fun.is

pub returns-in-Const : goal.returns-in-Const
returns-in-Const t c =
    c.is_code.ensures ∙ by_form (tables_of c.args.unit.now) is_code c.args.id c.entry.result (ty.Const _) c.entry.ensures.value c.in-Const.is

pub returns-in_default : goal.returns-in_default
returns-in_default t c =
    no_code (tables_of c.args.unit.now) c.entry.result c.in_default.not-Fun c.in_default.not-Const ∙ sym (ap is_code c.entry.ensures.value)
