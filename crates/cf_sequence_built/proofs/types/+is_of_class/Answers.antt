use Rattle.std.proofs.Common.{sym, ap, ◌∙◌}
use Rattle.cf_core.specs.FromUnit.{tables_of}
use Rattle.cf_sequence_built.proofs.TypeLaws.{class_by_entry, class_seen, class_seen_other}
use Rattle.cf_sequence_built.proofs.types.+is_of_class.Goals as goal

pub returns-in-Class : goal.returns-in-Class
returns-in-Class t c =
    sym (class_by_entry (tables_of c.args.unit.now) c.args.ty c.ty.result.now c.ty.ensures.kept c.ty.ensures.earlier ∙ ap (class_seen (tables_of c.args.unit.now)) c.in-Class.is)

pub returns-in-Const : goal.returns-in-Const
returns-in-Const t c =
    c.is_of_class.ensures
    ∙ sym (class_by_entry (tables_of c.args.unit.now) c.args.ty c.ty.result.now c.ty.ensures.kept c.ty.ensures.earlier ∙ ap (class_seen (tables_of c.args.unit.now)) c.in-Const.is)

pub returns-in_default : goal.returns-in_default
returns-in_default t c =
    sym (class_by_entry (tables_of c.args.unit.now) c.args.ty c.ty.result.now c.ty.ensures.kept c.ty.ensures.earlier
    ∙ class_seen_other (tables_of c.args.unit.now) c.ty.result.now c.in_default.not-Class c.in_default.not-Const)
