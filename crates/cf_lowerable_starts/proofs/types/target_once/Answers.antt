use Rattle.cf_lowerable_starts.proofs.TypeLaws.{bare_once}
use Rattle.cf_lowerable_starts.proofs.types.target_once.Goals as goal

pub returns-in-Bare : goal.returns-in-Bare
returns-in-Bare c = bare_once c.args.tables.now c.args.target.now _ c.in-Bare.is
