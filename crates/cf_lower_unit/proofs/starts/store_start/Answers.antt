use Rattle.std.proofs.lemmas.Result.{on_ok_weaker}
use Rattle.cf_lower_stmt.specs.Steps.{written}
use Rattle.cf_lower_unit.proofs.Stores.{start_is}
use Rattle.cf_lower_unit.proofs.starts.store_start.Goals as goal

pub returns : goal.returns
returns c =
    on_ok_weaker c.initialiser.result
    (start_is c.args.tables.now c.args.x.now c.site-site.result (written c.args.code.now) (written c.initialiser.new.code) c.site-site.ensures.at c.site-site.ensures.owner)
    c.initialiser.ensures
