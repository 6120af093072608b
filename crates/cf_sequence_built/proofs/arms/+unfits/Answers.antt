use Rattle.std.proofs.Common.{◌<◌, arith}
use Rattle.cf_core.specs.FromUnit.{tables_of}
use Rattle.cf_sequence_built.proofs.Walks.{unfit_of_if}
use Rattle.cf_sequence_built.proofs.arms.+unfits.Goals as goal

pub unfit-returns-else-next_or-count : goal.unfit-returns-else-next_or-count
unfit-returns-else-next_or-count t c =
    let tables = tables_of c.args.unit.now in
    let past = c.if-next_or-count.false in
    unfit_of_if tables c.args.s.now c.in-If.at c.in-If.condition c.in-If.yes c.get.result.now c.in-If.no c.args.count c.next.result c.next_or.result c.in-If.is c.get.ensures
    (c.next.ensures tables) (c.next_or.ensures tables) (omega (arith, past))
