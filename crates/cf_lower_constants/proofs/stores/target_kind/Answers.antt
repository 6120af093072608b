use Rattle.cf_lower_constants.proofs.StoreLaws.{bare_kind}
use Rattle.cf_lower_constants.proofs.stores.target_kind.Goals as goal

pub returns-in-Bare : goal.returns-in-Bare
returns-in-Bare c = bare_kind c.args.tables.now c.args.target.now c.in-Bare.id c.character_kind-in-Bare.result c.in-Bare.is c.character_kind-in-Bare.ensures
