use Rattle.std.proofs.Common.{ap}
use Rattle.std.specs.Option.{option_map}
use Rattle.cf_core.specs.FromTypes.{type_of}
use Rattle.cf_lower_layout.specs.Sorts.{sort_of}
use Rattle.cf_lower_types.specs.Bare.{classes_of, sort_in}
use Rattle.cf_lower_constants.specs.Knowing.{known_in}
use Rattle.cf_lower_constants.specs.Sites.{told_all}
use Rattle.cf_lower_constants.proofs.Conversions.{held_as}
use Rattle.cf_lower_constants.proofs.acts.as_type.Goals as goal

pub returns : goal.returns
returns c =
    let x = c.args.x.now in
    let tables = x.tables.now in
    held_as tables (classes_of tables) c.in_ok-held.held (told_all x c.args.known.now c.args.operand) (known_in tables c.converted.result) (ap (known_in tables) c.in_ok-held.ensures)
    (option_map (sort_in tables) c.sort_of-scalar.result) (sort_of (type_of tables c.args.ty)) c.sort_of-scalar.ensures (c.converted.ensures tables (classes_of tables))
