use Rattle.std.proofs.Common.{ap, sym, ◌∙◌}
use Rattle.cf_core.specs.FromUnit.{tables_of}
use Rattle.cf_types.specs.declared.ty.Ty.TheVariants as ty
use Rattle.cf_core.specs.Types.{element}
use Rattle.cf_sound.proofs.Entries.{by_form}
use Rattle.cf_sound.proofs.FormLaws.{element_by_others}
use Rattle.cf_sound.proofs.forms.element_of.Goals as goal

pub returns-in-Array : goal.returns-in-Array
returns-in-Array c = by_form (tables_of c.args.unit.now) element c.args.id c.entry.result (ty.Array _ _) c.entry.ensures.value c.in-Array.is

pub returns-in_default : goal.returns-in_default
returns-in_default c =
    c.entry.ensures.value ∙ element_by_others (tables_of c.args.unit.now) c.entry.result c.in_default.not-Array ∙ sym (ap element c.entry.ensures.value)
