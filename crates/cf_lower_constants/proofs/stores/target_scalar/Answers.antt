use Rattle.cf_lower_constants.proofs.StoreLaws.{bare_sort}
use Rattle.cf_lower_constants.proofs.stores.target_scalar.Goals as goal

pub returns-in-Bare : goal.returns-in-Bare
returns-in-Bare c = bare_sort c.args.tables.now c.args.target.now c.in-Bare.id c.sort_of-in-Bare.result c.in-Bare.is c.sort_of-in-Bare.ensures
