use Rattle.std.proofs.Common.{ap, sym, ◌∙◌}
use Rattle.cf_core.specs.FromUnit.{tables_of}
use Rattle.cf_types.specs.declared.ty.Ty.TheVariants as ty
use Rattle.std.specs.Prelude.{Some}
use Rattle.cf_core_sound.specs.Forms.{place, named}
use Rattle.cf_sound.proofs.Entries.{by_form}
use Rattle.cf_sound.proofs.FormLaws.{named_by_others}
use Rattle.cf_sound.proofs.forms.named.Goals as goal

pub returns-in-Ref : goal.returns-in-Ref
returns-in-Ref c = by_form (tables_of c.args.unit.now) (λ t. named (Some t)) c.args.id c.entry.result (ty.Ref _) c.entry.ensures.value c.in-Ref.is

pub returns-in_default : goal.returns-in_default
returns-in_default c =
    ap place c.entry.ensures.value ∙ named_by_others (tables_of c.args.unit.now) c.entry.result c.in_default.not-Ref
    ∙ sym (ap (λ t. named (Some t)) c.entry.ensures.value)
