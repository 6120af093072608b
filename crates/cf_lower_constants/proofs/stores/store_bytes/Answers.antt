use Rattle.cf_lower_stmt.specs.Steps.{written}
use Rattle.cf_lower_types.specs.Bare.{classes_of}
use Rattle.cf_lower_constants.proofs.StoreLaws.{filled_at}
use Rattle.cf_lower_constants.proofs.stores.store_bytes.Goals as goal

pub returns-in_ok-put_bytes-in-Place : goal.returns-in_ok-put_bytes-in-Place
returns-in_ok-put_bytes-in-Place c =
    let tables = c.args.x.now.tables.now in
    filled_at tables (classes_of tables) c.args.fact.now c.args.target.now c.args.name.now c.in-Place.at c.args.bytes.now c.target_kind-kind.result
    (written c.args.code.now) (written c.put_bytes.new.code) c.in-Place.is c.target_kind-kind.ensures c.in_ok-put_bytes-in-Place.ensures
