use Rattle.std.proofs.Common.{◌∙◌}
use Rattle.cf_lower_held.specs.Holds.{kept_in}
use Rattle.cf_lower_stmt.proofs.Objects.{kind_place}
use Rattle.cf_lower_stmt.proofs.stores.kind_in.Goals as goal

pub returns-in-Some : goal.returns-in-Some
returns-in-Some c =
    let tables = c.args.x.now.tables.now in
    c.place_kind.ensures ∙ kind_place tables (kept_in tables c.args.kept.now) c.place_in.result (c.place_in.ensures tables) c.in-Some.ty c.in-Some.is
