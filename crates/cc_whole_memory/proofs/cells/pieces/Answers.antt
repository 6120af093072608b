use Rattle.std.proofs.Common.{◌<◌, arith, refl}
use Rattle.cc_whole_memory.proofs.CellLaws.{found-none, found-set}
use Rattle.cc_whole_memory.proofs.cells.pieces.Goals as goal

pub loop-index-init : goal.loop-index-init
loop-index-init c = found-none c.args.cells.now c.args.at c.args.count _ refl

pub loop-index-preserved : goal.loop-index-preserved
loop-index-preserved c =
    let few = c.requires.few in
    let turn = c.loop-index-test.true in
    let within : c.loop-index.index < 4 = omega (arith, few, turn) in
    found-set c.args.cells.now c.args.at c.args.count c.loop-index.index c.loop-index.found c.whole.result c.loop-index.invariant within c.whole.ensures
