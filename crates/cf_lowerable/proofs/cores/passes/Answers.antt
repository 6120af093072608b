use Rattle.cf_core.specs.FromUnit.{file_of}
use Rattle.cf_lowerable_core.specs.Looks.{looks}
use Rattle.cf_sequence_lowered.specs.Literals.{core_literals_differ}
use Rattle.cf_lowerable.proofs.Joins.{first_fails, past}
use Rattle.cf_lowerable.proofs.cores.passes.Goals as goal

pub returns-then-not-fits : goal.returns-then-not-fits
returns-then-not-fits c =
    let file = file_of c.args.core.now in first_fails c.in_ok-fits.fits (looks file) c.in_ok-fits.ensures (core_literals_differ file) c.if-not-fits.true

pub returns : goal.returns
returns c =
    let file = file_of c.args.core.now in
    past c.in_ok-fits.fits (looks file) c.in_ok-fits.ensures c.in_ok-differ.differ (core_literals_differ file) c.if-not-fits.false c.in_ok-differ.ensures
