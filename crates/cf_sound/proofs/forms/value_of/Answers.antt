use Rattle.std.proofs.Common.{ap, sym, ◌∙◌}
use Rattle.cf_core.specs.FromUnit.{tables_of}
use Rattle.cf_types.specs.declared.ty.Ty.TheVariants as ty
use Rattle.cf_core_sound.specs.Forms.{valued}
use Rattle.cf_sound.proofs.Entries.{by_form}
use Rattle.cf_sound.proofs.FormLaws.{valued_by_others}
use Rattle.cf_sound.proofs.forms.value_of.Goals as goal

pub returns-in-Ptr : goal.returns-in-Ptr
returns-in-Ptr c = by_form (tables_of c.args.unit.now) valued c.args.id c.entry.result (ty.Ptr _) c.entry.ensures.value c.in-Ptr.is

pub returns-in_default : goal.returns-in_default
returns-in_default c = valued_by_others (tables_of c.args.unit.now) c.entry.result c.in_default.not-Ptr ∙ sym (ap valued c.entry.ensures.value)
