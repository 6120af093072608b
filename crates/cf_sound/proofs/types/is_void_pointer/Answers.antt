use Rattle.std.proofs.Common.{ap, sym, ◌∙◌}
use Rattle.cf_core.specs.FromUnit.{tables_of}
use Rattle.cf_types.specs.declared.ty.Ty.TheVariants as ty
use Rattle.cf_core_sound.specs.Simple.{leads_to_void}
use Rattle.cf_sound.proofs.Entries.{by_form, no_void_pointer}
use Rattle.cf_sound.proofs.types.is_void_pointer.Goals as goal

pub returns-in-Ptr : goal.returns-in-Ptr
returns-in-Ptr c =
    c.is_void.ensures ∙ by_form (tables_of c.args.unit.now) leads_to_void c.args.id c.entry.result (ty.Ptr _) c.entry.ensures.value c.in-Ptr.is

pub returns-in_default : goal.returns-in_default
returns-in_default c = no_void_pointer (tables_of c.args.unit.now) c.entry.result c.in_default.not-Ptr ∙ sym (ap leads_to_void c.entry.ensures.value)
