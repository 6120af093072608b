use Rattle.std.proofs.Common.{ap, sym, ◌∙◌}
use Rattle.cf_core.specs.FromUnit.{tables_of}
use Rattle.cf_types.specs.declared.ty.Ty.TheVariants as ty
use Rattle.cf_core_sound.specs.Forms.{given_back}
use Rattle.cf_sound.proofs.Entries.{by_form}
use Rattle.cf_sound.proofs.FormLaws.{given_by_others}
use Rattle.cf_sound.proofs.forms.+given_back.Goals as goal

pub returns-in-Ref : goal.returns-in-Ref
returns-in-Ref t c = by_form (tables_of c.args.unit.now) given_back c.args.id c.entry.result (ty.Ref _) c.entry.ensures.value c.in-Ref.is

pub returns-in-Const : goal.returns-in-Const
returns-in-Const t c =
    c.given_back.ensures ∙ by_form (tables_of c.args.unit.now) given_back c.args.id c.entry.result (ty.Const _) c.entry.ensures.value c.in-Const.is

pub returns-in-Ptr : goal.returns-in-Ptr
returns-in-Ptr t c = by_form (tables_of c.args.unit.now) given_back c.args.id c.entry.result (ty.Ptr _) c.entry.ensures.value c.in-Ptr.is

pub returns-in_default : goal.returns-in_default
returns-in_default t c =
    given_by_others (tables_of c.args.unit.now) c.entry.result c.in_default.not-Ref c.in_default.not-Const c.in_default.not-Ptr
    ∙ sym (ap given_back c.entry.ensures.value)
