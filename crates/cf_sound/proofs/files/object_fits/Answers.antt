use Rattle.cf_core.specs.FromUnit.{tables_of, static_of}
use Rattle.cf_sound.specs.Files.{head_fits}
use Rattle.cf_sound.proofs.Tests.{first_fails, past}
use Rattle.cf_sound.proofs.files.object_fits.Goals as goal

pub returns-then-not-head_fits : goal.returns-then-not-head_fits
returns-then-not-head_fits c =
    first_fails c.head_fits.result (head_fits (static_of (tables_of c.args.unit.now) c.args.x.now)) c.head_fits.ensures _ c.if-not-head_fits.true

pub returns : goal.returns
returns c =
    past c.head_fits.result (head_fits (static_of (tables_of c.args.unit.now) c.args.x.now)) c.head_fits.ensures _ _ c.if-not-head_fits.false c.in_ok-fits.ensures
