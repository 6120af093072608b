use Rattle.std.proofs.Common.{ap}
use Rattle.cf_lower_constants.specs.Knowing.{known_in}
use Rattle.cf_lower_constants.specs.Sites.{told_all}
use Rattle.cf_lower_constants.proofs.Operated.{decided_is}
use Rattle.cf_lower_constants.proofs.acts.decided.Goals as goal

pub returns : goal.returns
returns c =
    let x = c.args.x.now in
    let tables = x.tables.now in
    decided_is tables c.in_ok-held.held (told_all x c.args.known.now c.args.register) c.truth.result (ap (known_in tables) c.in_ok-held.ensures) c.truth.ensures
