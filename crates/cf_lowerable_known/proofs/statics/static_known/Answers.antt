use Rattle.cf_plain.specs.View.{static_of}
use Rattle.cf_lowerable_known.proofs.Files.{both_there, no_constant, no_owner}
use Rattle.cf_lowerable_known.proofs.statics.static_known.Goals as goal

pub returns-then-not-constant : goal.returns-then-not-constant
returns-then-not-constant c = no_constant c.args.names.now (static_of c.args.tables.now c.args.object.now) c.if-not-constant.true

pub returns-then-not-there : goal.returns-then-not-there
returns-then-not-there c =
    let tables = c.args.tables.now in
    no_owner c.args.names.now (static_of tables c.args.object.now) c.is_owned-there.result (c.is_owned-there.ensures tables) c.if-not-there.true

pub returns : goal.returns
returns c =
    let tables = c.args.tables.now in
    both_there c.args.names.now (static_of tables c.args.object.now) c.is_owned-there.result (c.is_owned-there.ensures tables) c.in_ok-known.known c.if-not-constant.false
    c.if-not-there.false c.in_ok-known.ensures
