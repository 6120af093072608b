use Rattle.std.proofs.Common.{sym, ap, ◌∙◌}
use Rattle.cf_core.specs.FromUnit.{tables_of}
use Rattle.cf_sequence_built.proofs.TypeLaws.{reference_by_entry, reference_seen, reference_seen_other}
use Rattle.cf_sequence_built.proofs.types.+is_reference.Goals as goal

pub returns-in-Ref : goal.returns-in-Ref
returns-in-Ref t c =
    sym (reference_by_entry (tables_of c.args.unit.now) c.args.ty c.ty.result.now c.ty.ensures.kept c.ty.ensures.earlier ∙ ap (reference_seen (tables_of c.args.unit.now)) c.in-Ref.is)

pub returns-in-Const : goal.returns-in-Const
returns-in-Const t c =
    c.is_reference.ensures
    ∙ sym (reference_by_entry (tables_of c.args.unit.now) c.args.ty c.ty.result.now c.ty.ensures.kept c.ty.ensures.earlier ∙ ap (reference_seen (tables_of c.args.unit.now)) c.in-Const.is)

pub returns-in_default : goal.returns-in_default
returns-in_default t c =
    sym (reference_by_entry (tables_of c.args.unit.now) c.args.ty c.ty.result.now c.ty.ensures.kept c.ty.ensures.earlier
    ∙ reference_seen_other (tables_of c.args.unit.now) c.ty.result.now c.in_default.not-Ref c.in_default.not-Const)
