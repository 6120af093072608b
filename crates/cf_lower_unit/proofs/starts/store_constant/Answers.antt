use Rattle.std.proofs.lemmas.Result.{on_ok_weaker}
use Rattle.cf_lower_stmt.specs.Steps.{written}
use Rattle.cf_lower_unit.proofs.Stores.{not_stored, stored}
use Rattle.cf_lower_unit.proofs.starts.store_constant.Goals as goal

pub returns-then-x : goal.returns-then-x
returns-then-x c =
    on_ok_weaker c.store_start.result (stored c.args.tables.now c.args.x.now (written c.args.code.now) (written c.store_start.new.code) c.if-x.true) c.store_start.ensures

pub returns : goal.returns
returns c = not_stored c.args.tables.now c.args.x.now (written c.args.code.now) c.if-x.false
