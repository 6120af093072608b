use Rattle.std.proofs.Common.{sym, ap, ◌∙◌}
use Rattle.cf_lower_held.specs.Holds.{kept_in}
use Rattle.cf_lower_held.specs.Scenes.{action_in, locals_in, holding}
use Rattle.cf_lowerable_types.specs.Kinds.{has_kind}
use Rattle.cf_lowerable_places.specs.Contents.{knowing}
use Rattle.cf_lowerable_places.proofs.Giving.{set_known}
use Rattle.cf_lowerable_places.proofs.Holding.{without_kinds}
use Rattle.cf_lowerable_places.proofs.setting.set.Goals as goal

pub returns : goal.returns
returns c =
    let x = c.args.x.now in
    let tables = x.tables.now in
    set_known (locals_in x) (knowing x c.args.cs.now) (holding x c.registers.result.now) c.args.register (action_in x c.args.a.now) (kept_in tables c.kept_by-given.result)
    (has_kind c.given_kinds-kinds.result) (knowing x c.keep.new.self) (without_kinds tables c.args.cs.now ∙ ap (λ r. holding x r) (sym c.registers.ensures)) c.kept_by-given.ensures
    c.given_kinds-kinds.ensures (c.in_ok-keep.ensures tables)
