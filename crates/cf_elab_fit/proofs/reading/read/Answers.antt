use Rattle.cf_elab_fit.proofs.ReadLaws.{read_known}
use Rattle.cf_elab_fit.proofs.reading.read.Goals as goal

pub returns-clause-known : goal.returns-clause-known
returns-clause-known c = read_known c.args.env.now.types c.args.value c.in_ok-read.read c.holds.ensures.table c.requires c.in_ok-read.ensures.made
