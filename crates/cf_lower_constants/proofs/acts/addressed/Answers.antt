use Rattle.std.proofs.Common.{Some, refl, ap}
use Rattle.cf_core.specs.FromTypes.{type_of}
use Rattle.cf_lower_layout.specs.Sorts.{address}
use Rattle.cf_lower_types.specs.Bare.{classes_of}
use Rattle.cf_lower_constants.specs.Knowing.{known_in}
use Rattle.cf_lower_constants.specs.Sites.{told_all}
use Rattle.cf_lower_constants.proofs.Conversions.{held_as}
use Rattle.cf_lower_constants.proofs.acts.addressed.Goals as goal

pub returns : goal.returns
returns c =
    let x = c.args.x.now in
    let tables = x.tables.now in
    held_as tables (classes_of tables) c.in_ok-held.held (told_all x c.args.known.now c.args.operand) (known_in tables c.as_address.result) (ap (known_in tables) c.in_ok-held.ensures)
    (Some (address (type_of tables c.args.ty))) (Some (address (type_of tables c.args.ty))) refl (c.as_address.ensures tables (classes_of tables))
