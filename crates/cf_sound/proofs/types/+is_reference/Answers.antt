use Rattle.std.proofs.Common.{ap, sym, ◌∙◌}
use Rattle.cf_core.specs.FromUnit.{tables_of}
use Rattle.cf_types.specs.declared.ty.Ty.TheVariants as ty
use Rattle.cf_core.specs.Places.{is_reference}
use Rattle.cf_sound.proofs.Entries.{by_form, no_reference}
use Rattle.cf_sound.proofs.types.+is_reference.Goals as goal

pub returns-in-Ref : goal.returns-in-Ref
returns-in-Ref t c =
    by_form (tables_of c.args.unit.now) is_reference c.args.id c.entry.result (ty.Ref _) c.entry.ensures.value c.in-Ref.is

pub returns-in-Const : goal.returns-in-Const
returns-in-Const t c =
    c.is_reference.ensures ∙ by_form (tables_of c.args.unit.now) is_reference c.args.id c.entry.result (ty.Const _) c.entry.ensures.value c.in-Const.is

pub returns-in_default : goal.returns-in_default
returns-in_default t c =
    no_reference (tables_of c.args.unit.now) c.entry.result c.in_default.not-Ref c.in_default.not-Const ∙ sym (ap is_reference c.entry.ensures.value)
