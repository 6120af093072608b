use Rattle.std.specs.Option.{option_map}
use Rattle.cc_whole.specs.Plain.{expression_of}
use Rattle.cf_core.specs.FromTypes.{type_of}
use Rattle.cf_lower_held.specs.Holds.{kept_in}
use Rattle.cf_lower_layout.specs.Sorts.{sort_of}
use Rattle.cf_lower_types.specs.Bare.{sort_in}
use Rattle.cf_lower_expr.proofs.Converted.{converted_is}
use Rattle.cf_lower_expr.proofs.conversions.converted.Goals as goal

pub returns : goal.returns
returns c =
    let tables = c.args.x.now.tables.now in
    converted_is (sort_of (type_of tables c.args.ty)) (option_map (sort_in tables) c.sort_of-scalar.result) (kept_in tables c.args.held.now) c.args.operand c.cell_in-to.result
    c.holds_integer-is_zero.result (expression_of c.in_ok-made.made) (c.cell_in-to.ensures tables) c.sort_of-scalar.ensures (c.holds_integer-is_zero.ensures tables) c.in_ok-made.ensures
