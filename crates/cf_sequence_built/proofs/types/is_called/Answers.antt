use Rattle.std.proofs.Common.{sym, ap, ◌∙◌, not}
use Rattle.cf_core.specs.FromUnit.{tables_of}
use Rattle.cf_sequence_built.proofs.TypeLaws.{called_by_entry, called_seen, called_seen_other, fun_seen}
use Rattle.cf_sequence_built.proofs.types.is_called.Goals as goal

pub returns-in-Fun : goal.returns-in-Fun
returns-in-Fun c =
    ap not c.is_of_class.ensures ∙ ap (fun_seen (tables_of c.args.unit.now)) (sym c.fun.ensures)
    ∙ sym (called_by_entry (tables_of c.args.unit.now) c.args.ty c.ty.result.now c.ty.ensures.kept c.ty.ensures.names ∙ ap (called_seen (tables_of c.args.unit.now)) c.in-Fun.is)

pub returns-in_default : goal.returns-in_default
returns-in_default c =
    sym (called_by_entry (tables_of c.args.unit.now) c.args.ty c.ty.result.now c.ty.ensures.kept c.ty.ensures.names
    ∙ called_seen_other (tables_of c.args.unit.now) c.ty.result.now c.in_default.not-Fun)
