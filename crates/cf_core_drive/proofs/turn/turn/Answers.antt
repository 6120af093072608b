use Rattle.cf_core_drive.proofs.turn.turn.Goals as goal

pub returns-in-Asks-clause-turns : goal.returns-in-Asks-clause-turns
returns-in-Asks-clause-turns g c = c.ask.ensures.turns c.args.program.now

pub returns-in-Asks-clause-nearer : goal.returns-in-Asks-clause-nearer
returns-in-Asks-clause-nearer g c = c.ask.ensures.nearer c.args.program.now

pub returns-in_default-clause-nearer : goal.returns-in_default-clause-nearer
returns-in_default-clause-nearer g c = c.advance.ensures.nearer c.in_default.not-Asks
