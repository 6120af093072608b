use Rattle.std.specs.Option.{option_map}
use Rattle.cf_core.specs.FromTypes.{type_of}
use Rattle.cf_core.specs.Types.{result}
use Rattle.cf_lower_layout.specs.Sorts.{sort_of}
use Rattle.cf_lower_types.specs.Bare.{sort_in}
use Rattle.cf_lower_stmt.proofs.Cells.{type_is}
use Rattle.cf_lower_stmt.proofs.calls.result_type.Goals as goal

pub returns : goal.returns
returns c =
    let tables = c.args.tables.now in
    type_is (sort_of (result (type_of tables c.args.ty))) (option_map (sort_in tables) c.result_sort-scalar.result) c.cell_in.result c.result_sort-scalar.ensures (c.cell_in.ensures tables)
    c.c_type.result c.c_type.ensures
