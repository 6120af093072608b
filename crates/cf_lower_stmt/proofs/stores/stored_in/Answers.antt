use Rattle.cc_whole.specs.Plain.{expression_of}
use Rattle.cf_lower_held.specs.Holds.{kept_in}
use Rattle.cf_lower_stmt.specs.Steps.{written}
use Rattle.cf_lower_stmt.proofs.Objects.{stored_place}
use Rattle.cf_lower_stmt.proofs.stores.stored_in.Goals as goal

pub returns-in_ok-stored-in-Some : goal.returns-in_ok-stored-in-Some
returns-in_ok-stored-in-Some c =
    let tables = c.args.x.now.tables.now in
    stored_place tables (kept_in tables c.args.kept.now) c.place_in.result (c.place_in.ensures tables) c.args.place (written c.args.code.now) (written c.stored.new.code) c.in-Some.ty
    c.place_scalar-scalar.result c.cell_in-cell.result (expression_of c.args.given) c.in-Some.is c.place_scalar-scalar.ensures (c.cell_in-cell.ensures tables)
    c.in_ok-stored-in-Some.ensures
