use Rattle.cc_whole.specs.Plain.{expression_of}
use Rattle.cf_lower_held.specs.Holds.{kept_in}
use Rattle.cf_lower_expr.proofs.ValueLaws.{read_some}
use Rattle.cf_lower_expr.proofs.scalars.read_value.Goals as goal

pub returns-in_ok-made-in-Some : goal.returns-in_ok-made-in-Some
returns-in_ok-made-in-Some c =
    let tables = c.args.x.now.tables.now in
    read_some tables (kept_in tables c.args.held.now) c.place_in.result (c.place_in.ensures tables) c.args.register (expression_of c.in_ok-made-in-Some.made) c.in-Some.ty
    c.place_scalar-scalar.result c.cell_in-cell.result c.in-Some.is c.place_scalar-scalar.ensures (c.cell_in-cell.ensures tables) c.in_ok-made-in-Some.ensures
