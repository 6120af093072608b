use Rattle.std.proofs.Common.{sym, ap, ◌∙◌}
use Rattle.cf_core.specs.FromTypes.{type_of, type_step}
use Rattle.cf_core.specs.Places as places
use Rattle.cf_lowerable_starts.proofs.EntryLaws.{other_const}
use Rattle.cf_lowerable_starts.proofs.types.is_const.Goals as goal

pub returns-in-Const : goal.returns-in-Const
returns-in-Const c =
    let tables = c.args.tables.now in
    sym (ap places.is_const (c.entry.ensures.value ∙ ap (type_step tables (type_of tables)) c.in-Const.is))

pub returns-in_default : goal.returns-in_default
returns-in_default c =
    sym (ap places.is_const c.entry.ensures.value ∙ other_const c.args.tables.now c.entry.result c.in_default.not-Const)
