use Rattle.std.proofs.Common.{◌&&◌, not, sym, ap, ◌∙◌}
use Rattle.cf_core.specs.FromTypes.{type_of, type_step}
use Rattle.cf_core.specs.Places as places
use Rattle.cf_lower_layout.specs.Layout.{const_once}
use Rattle.cf_lowerable_starts.proofs.EntryLaws.{other_once}
use Rattle.cf_lowerable_starts.proofs.types.+is_const_once.Goals as goal

pub returns-in-Const : goal.returns-in-Const
returns-in-Const t c =
    let tables = c.args.tables.now in
    c.both.ensures ∙ ap (λ b. not b && c.is_const_once-once.result) c.is_const-twice.ensures
    ∙ ap (λ b. not (places.is_const (type_of tables c.in-Const.inside)) && b) c.is_const_once-once.ensures
    ∙ sym (ap const_once (c.entry.ensures.value ∙ ap (type_step tables (type_of tables)) c.in-Const.is))

pub returns-in-Array : goal.returns-in-Array
returns-in-Array t c =
    let tables = c.args.tables.now in
    c.is_const_once-items.ensures ∙ sym (ap const_once (c.entry.ensures.value ∙ ap (type_step tables (type_of tables)) c.in-Array.is))

pub returns-in_default : goal.returns-in_default
returns-in_default t c =
    sym (ap const_once c.entry.ensures.value ∙ other_once c.args.tables.now c.entry.result c.in_default.not-Const c.in_default.not-Array)
