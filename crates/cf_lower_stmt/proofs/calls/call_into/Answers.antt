use Rattle.std.specs.Option.{option_map}
use Rattle.cc_whole.specs.Plain.{callee_of}
use Rattle.cf_core.specs.FromTypes.{type_of}
use Rattle.cf_core.specs.Types.{result}
use Rattle.cf_lower_layout.specs.Sorts.{sort_of}
use Rattle.cf_lower_types.specs.Bare.{sort_in}
use Rattle.cf_lower_stmt.specs.Steps.{written}
use Rattle.cf_lower_stmt.proofs.Cells.{called_by_cell}
use Rattle.cf_lower_stmt.proofs.calls.call_into.Goals as goal

pub returns : goal.returns
returns c =
    let tables = c.args.x.now.tables.now in
    called_by_cell (sort_of (result (type_of tables c.args.ty))) (option_map (sort_in tables) c.result_sort-scalar.result) c.cell_in-cell.result c.result_sort-scalar.ensures
    (c.cell_in-cell.ensures tables) (written c.args.code.now) (written c.call_as.new.code) (callee_of c.args.callee) c.args.arguments.now c.args.register c.in_ok-call_as.ensures
