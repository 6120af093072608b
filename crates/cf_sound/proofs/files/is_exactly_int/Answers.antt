use Rattle.std.proofs.Common.{ap, sym, ◌∙◌}
use Rattle.cf_types.specs.declared.ty.Ty.TheVariants as ty
use Rattle.cf_base.specs.declared.kind.Kind.TheVariants.{Int}
use Rattle.cf_core.specs.FromUnit.{tables_of}
use Rattle.cf_core.specs.Types.{integer, type_eq}
use Rattle.cf_sound.proofs.Entries.{by_form}
use Rattle.cf_sound.proofs.FileLaws.{no_exact_int}
use Rattle.cf_sound.proofs.files.is_exactly_int.Goals as goal

pub returns-in-Int : goal.returns-in-Int
returns-in-Int c =
    c.is_int_kind.ensures.second
    ∙ by_form (tables_of c.args.unit.now) (λ t. type_eq t (integer Int)) c.args.id c.entry.result (ty.Int _) c.entry.ensures.value c.in-Int.is

pub returns-in_default : goal.returns-in_default
returns-in_default c =
    no_exact_int (tables_of c.args.unit.now) c.entry.result c.in_default.not-Int ∙ sym (ap (λ t. type_eq t (integer Int)) c.entry.ensures.value)
