use Rattle.std.specs.Option.{option_map}
use Rattle.cc_whole.specs.Plain.{expression_of}
use Rattle.cf_core.specs.FromTypes.{type_of}
use Rattle.cf_lower_layout.specs.Sorts.{sort_of}
use Rattle.cf_lower_types.specs.Bare.{sort_in}
use Rattle.cf_lower_stmt.specs.Steps.{written}
use Rattle.cf_lower_stmt.proofs.Cells.{given_by_cell}
use Rattle.cf_lower_stmt.proofs.writes.give.Goals as goal

pub returns : goal.returns
returns c =
    let tables = c.args.x.now.tables.now in
    given_by_cell (sort_of (type_of tables c.args.x.now.result)) (option_map (sort_in tables) c.sort_of-scalar.result) c.cell_in-cell.result c.sort_of-scalar.ensures
    (c.cell_in-cell.ensures tables) (written c.args.code.now) (written c.give_as.new.code) (expression_of c.args.value) c.in_ok-give_as.ensures
