use Rattle.std.specs.Option.{option_map}
use Rattle.cf_lower_stmt.specs.Steps.{written}
use Rattle.cf_lower_types.specs.Bare.{classes_of, sort_in}
use Rattle.cf_lower_constants.specs.Sites.{told}
use Rattle.cf_lower_constants.proofs.StoreLaws.{stored_at}
use Rattle.cf_lower_constants.proofs.stores.store_at.Goals as goal

pub returns-in_ok-store_scalar-in-Place : goal.returns-in_ok-store_scalar-in-Place
returns-in_ok-store_scalar-in-Place c =
    let x = c.args.x.now in
    let tables = x.tables.now in
    stored_at tables (classes_of tables) c.args.fact.now c.args.target.now c.args.name.now c.in-Place.at (told x c.args.value.now) (written c.args.code.now)
    (written c.store_scalar.new.code) (option_map (sort_in tables) c.target_scalar-scalar.result) c.cell_in-cell.result c.in-Place.is c.target_scalar-scalar.ensures
    (c.cell_in-cell.ensures tables) c.in_ok-store_scalar-in-Place.ensures
