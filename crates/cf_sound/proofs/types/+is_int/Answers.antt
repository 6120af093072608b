use Rattle.std.proofs.Common.{ap, sym, ◌∙◌}
use Rattle.cf_core.specs.FromUnit.{tables_of}
use Rattle.cf_types.specs.declared.ty.Ty.TheVariants as ty
use Rattle.cf_base.specs.declared.kind.Kind.TheVariants.{Int}
use Rattle.cf_core.specs.Types.{integer, same_but_const}
use Rattle.cf_sound.proofs.Entries.{by_form, no_int}
use Rattle.cf_sound.proofs.types.+is_int.Goals as goal

pub returns-in-Int : goal.returns-in-Int
returns-in-Int t c =
    c.is_int_kind.ensures.first
    ∙ by_form (tables_of c.args.unit.now) (same_but_const (integer Int)) c.args.id c.entry.result (ty.Int _) c.entry.ensures.value c.in-Int.is

pub returns-in-Const : goal.returns-in-Const
returns-in-Const t c =
    c.is_int.ensures ∙ by_form (tables_of c.args.unit.now) (same_but_const (integer Int)) c.args.id c.entry.result (ty.Const _) c.entry.ensures.value c.in-Const.is

pub returns-in_default : goal.returns-in_default
returns-in_default t c =
    no_int (tables_of c.args.unit.now) c.entry.result c.in_default.not-Int c.in_default.not-Const ∙ sym (ap (same_but_const (integer Int)) c.entry.ensures.value)
