use Rattle.std.proofs.Common.{◌<◌, length, rules}
use Rattle.cc_whole_memory.proofs.CellLaws.{put-set, size-some}
use Rattle.cc_whole_memory.proofs.cells.put.Goals as goal

pub returns-clause-cells : goal.returns-clause-cells
returns-clause-cells c =
    let some = size-some c.args.value in
    let within : c.args.at < length c.clear.new.cells.items = search rules in
    put-set c.args.value c.args.at c.size_of.result c.args.cells.now.items c.clear.new.cells.items c.clear.ensures.cells c.size_of.ensures within
