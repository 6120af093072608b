use Rattle.std.proofs.Common.{◌+◌, ◌<◌, length, arith}
use Rattle.cc_whole_memory.proofs.CellLaws.{placed-none, placed-set, cell_at-indexed}
use Rattle.cc_whole_memory.proofs.cells.place.Goals as goal

pub loop-index-init : goal.loop-index-init
loop-index-init c = placed-none c.args.at c.args.count c.args.pieces.now c.args.cells.now.items c.clear.new.cells.items c.clear.ensures.length c.clear.ensures.cells

pub loop-index-preserved : goal.loop-index-preserved
loop-index-preserved c =
    let enough = c.requires.enough in
    let fits = c.requires.inside in
    let turn = c.loop-index-test.true in
    let within : c.loop-index.index < length c.args.pieces.now = omega (arith, enough, turn) in
    let inside : c.args.at + c.loop-index.index < length c.args.cells.now.items = omega (arith, fits, turn) in
    placed-set c.args.at c.args.count c.loop-index.index c.args.pieces.now c.args.cells.now.items c.loop-index.cells.items _
    c.loop-index.invariant within inside (cell_at-indexed c.args.pieces.now c.loop-index.index _ within)
