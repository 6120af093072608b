use Rattle.std.proofs.Common.{ap}
use Rattle.cf_lower_constants.specs.Knowing.{known_in}
use Rattle.cf_lower_constants.specs.Sites.{told_all}
use Rattle.cf_lowerable_known.proofs.Firsts.{not_given, not_there, well_there}
use Rattle.cf_lowerable_known.proofs.acts.first_known.Goals as goal

pub returns-then-not-there : goal.returns-then-not-there
returns-then-not-there c =
    let x = c.args.x.now in
    let tables = x.tables.now in
    let at = c.in_ok-at.at in
    not_there tables (told_all x c.args.known.now) c.args.place c.args.value at (ap (known_in tables) c.in_ok-at.ensures) c.is_known-there.result
    (c.is_known-there.ensures tables at.target at.name) c.if-not-there.true

pub returns-then-not-is : goal.returns-then-not-is
returns-then-not-is c =
    let x = c.args.x.now in
    let tables = x.tables.now in
    let at = c.in_ok-at.at in
    let given = c.in_ok-given.given in
    not_given tables (told_all x c.args.known.now) c.args.place c.args.value at (ap (known_in tables) c.in_ok-at.ensures) c.is_known-there.result
    (c.is_known-there.ensures tables at.target at.name) c.if-not-there.false given (ap (known_in tables) c.in_ok-given.ensures) c.is_known-is.result
    (c.is_known-is.ensures tables given.target given.name) c.if-not-is.true

pub returns : goal.returns
returns c =
    let x = c.args.x.now in
    let tables = x.tables.now in
    let at = c.in_ok-at.at in
    let given = c.in_ok-given.given in
    well_there tables (told_all x c.args.known.now) c.args.place c.args.value at (ap (known_in tables) c.in_ok-at.ensures) c.is_known-there.result
    (c.is_known-there.ensures tables at.target at.name) c.if-not-there.false given (ap (known_in tables) c.in_ok-given.ensures) c.is_known-is.result
    (c.is_known-is.ensures tables given.target given.name) c.starts_well-well.result c.if-not-is.false
    (c.starts_well-well.ensures at.name given.name given.target)
