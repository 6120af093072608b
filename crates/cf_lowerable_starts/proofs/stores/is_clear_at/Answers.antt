use Rattle.std.proofs.Common.{sym, ◌∙◌}
use Rattle.cf_lower_constants.specs.Knowing.{target_in}
use Rattle.cf_lowerable_starts.specs.Telling.{parts_in}
use Rattle.cf_lowerable_starts.proofs.StoreLaws.{clear_there, other_name, void_not_clear}
use Rattle.cf_lowerable_starts.proofs.stores.is_clear_at.Goals as goal

pub returns-then-not-same : goal.returns-then-not-same
returns-then-not-same c =
    let t = target_in c.args.tables.now c.args.target.now in
    other_name c.args.name.now c.args.of.now c.args.at t (parts_in c.args.parts.now) (sym c.is_same-same.ensures ∙ c.if-not-same.true)

pub returns-then-void : goal.returns-then-void
returns-then-void c =
    let t = target_in c.args.tables.now c.args.target.now in
    void_not_clear c.args.name.now c.args.of.now c.args.at t (parts_in c.args.parts.now) (sym c.is_same-same.ensures ∙ c.if-not-same.false) c.in_ok-void.void c.in_ok-void.ensures c.if-void.true

pub returns : goal.returns
returns c =
    let t = target_in c.args.tables.now c.args.target.now in
    clear_there c.args.name.now c.args.of.now c.args.at t (parts_in c.args.parts.now) (sym c.is_same-same.ensures ∙ c.if-not-same.false) c.in_ok-void.void c.in_ok-void.ensures c.in_ok-size.size
    c.in_ok-clear.clear c.if-void.false c.in_ok-size.ensures c.in_ok-clear.ensures
