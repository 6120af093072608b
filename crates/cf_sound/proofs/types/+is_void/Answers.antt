use Rattle.std.proofs.Common.{ap, refl, sym, ◌∙◌}
use Rattle.cf_core.specs.FromUnit.{tables_of}
use Rattle.cf_types.specs.declared.ty.Ty.TheVariants as ty
use Rattle.cf_core.specs.Types.{is_void}
use Rattle.cf_sound.proofs.Entries.{by_form, by_fun, no_void}
use Rattle.cf_sound.proofs.types.+is_void.Goals as goal

pub returns-in-Void : goal.returns-in-Void
returns-in-Void t c =
    by_form (tables_of c.args.unit.now) is_void c.args.id c.entry.result (ty.Void) c.entry.ensures.value c.in-Void.is

pub returns-in-Const : goal.returns-in-Const
returns-in-Const t c =
    c.is_void.ensures ∙ by_form (tables_of c.args.unit.now) is_void c.args.id c.entry.result (ty.Const _) c.entry.ensures.value c.in-Const.is

pub returns-in-Fun : goal.returns-in-Fun
returns-in-Fun t c =
    by_fun (tables_of c.args.unit.now) is_void _ (λ q t. refl) (λ t b. refl) c.args.id _ c.entry.result c.entry.ensures.value c.entry.ensures.named c.in-Fun.is

pub returns-in_default : goal.returns-in_default
returns-in_default t c =
    no_void (tables_of c.args.unit.now) c.entry.result c.in_default.not-Void c.in_default.not-Fun c.in_default.not-Const ∙ sym (ap is_void c.entry.ensures.value)
