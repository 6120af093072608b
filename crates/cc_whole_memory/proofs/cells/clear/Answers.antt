use Rattle.std.proofs.Common.{◌-◌, ◌≤◌, rules}
use Rattle.cc_whole_memory.proofs.CellLaws.{cleared-set}
use Rattle.cc_whole_memory.proofs.cells.clear.Goals as goal

pub loop-offset-preserved : goal.loop-offset-preserved
loop-offset-preserved c =
    let from : c.args.at - 3 ≤ c.loop-offset.offset = search rules in
    cleared-set c.args.at c.args.count c.loop-offset.offset c.args.cells.now.items c.loop-offset.cells.items c.index.result.now c.left.result
    c.loop-offset.invariant from c.loop-offset-test.true c.requires c.index.ensures c.left.ensures
