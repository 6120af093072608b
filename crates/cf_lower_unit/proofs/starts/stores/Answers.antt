use Rattle.std.proofs.Common.{refl}
use Rattle.cf_lower_stmt.specs.Steps.{written}
use Rattle.cf_lower_unit.specs.Pieces.{all_starts}
use Rattle.cf_lower_unit.proofs.Turns.{no_more, stores_more}
use Rattle.cf_lower_unit.proofs.starts.stores.Goals as goal

pub loop-x-preserved : goal.loop-x-preserved
loop-x-preserved c =
    stores_more c.args.tables.now c.args.all.now c.loop-x.x-index c.x-item.result c.loop-x-test.true c.x-item.is (written c.loop-x.code)
    (written c.store_constant.new.code) _ c.loop-x.invariant c.in_ok-store_constant.ensures

pub returns : goal.returns
returns c =
    no_more (all_starts c.args.tables.now) refl c.args.all.now c.loop-x.x-index (written c.loop-x.code) _ c.loop-x-test.false c.loop-x.invariant
