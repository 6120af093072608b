use Rattle.std.proofs.Common.{ap, sym, ◌∙◌}
use Rattle.std.specs.Prelude.{is_some}
use Rattle.cf_core.specs.FromUnit.{tables_of}
use Rattle.cf_types.specs.declared.ty.Ty.TheVariants as ty
use Rattle.cf_lower_layout.specs.Sorts.{sort_of}
use Rattle.cf_lowerable_core.proofs.Entries.{by_form, no_scalar}
use Rattle.cf_lowerable_core.proofs.types.+is_scalar.Goals as goal

pub returns-in-Int : goal.returns-in-Int
returns-in-Int t c =
    by_form (tables_of c.args.unit.now) (λ u. is_some (sort_of u)) c.args.id c.entry.result (ty.Int _) c.entry.ensures.value c.in-Int.is

pub returns-in-Enum : goal.returns-in-Enum
returns-in-Enum t c =
    by_form (tables_of c.args.unit.now) (λ u. is_some (sort_of u)) c.args.id c.entry.result (ty.Enum _) c.entry.ensures.value c.in-Enum.is

pub returns-in-Ptr : goal.returns-in-Ptr
returns-in-Ptr t c =
    by_form (tables_of c.args.unit.now) (λ u. is_some (sort_of u)) c.args.id c.entry.result (ty.Ptr _) c.entry.ensures.value c.in-Ptr.is

pub returns-in-Ref : goal.returns-in-Ref
returns-in-Ref t c =
    by_form (tables_of c.args.unit.now) (λ u. is_some (sort_of u)) c.args.id c.entry.result (ty.Ref _) c.entry.ensures.value c.in-Ref.is

pub returns-in-Const : goal.returns-in-Const
returns-in-Const t c =
    c.is_scalar.ensures ∙ by_form (tables_of c.args.unit.now) (λ u. is_some (sort_of u)) c.args.id c.entry.result (ty.Const _) c.entry.ensures.value c.in-Const.is

pub returns-in_default : goal.returns-in_default
returns-in_default t c =
    no_scalar (tables_of c.args.unit.now) c.entry.result c.in_default.not-Int c.in_default.not-Enum c.in_default.not-Ptr c.in_default.not-Ref c.in_default.not-Const ∙ sym (ap (λ u. is_some (sort_of u)) c.entry.ensures.value)
