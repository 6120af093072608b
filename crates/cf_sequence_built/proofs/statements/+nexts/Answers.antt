use Rattle.cf_sequence_built.proofs.Walks.{next_of_sequence, next_of_if}
use Rattle.cf_sequence_built.proofs.statements.+nexts.Goals as goal

pub next-returns-in-Sequence : goal.next-returns-in-Sequence
next-returns-in-Sequence t c = λ tables.
    next_of_sequence tables c.args.s.now c.in-Sequence.at c.in-Sequence.statements c.as_slice.result.now c.args.below c.next_of_all.result c.in-Sequence.is
    c.as_slice.ensures (c.next_of_all.ensures tables)

pub next-returns-in-If : goal.next-returns-in-If
next-returns-in-If t c = λ tables.
    next_of_if tables c.args.s.now c.in-If.at c.in-If.condition c.in-If.yes c.get-in-If.result.now c.in-If.no c.args.below c.next.result c.next_or.result c.in-If.is c.get-in-If.ensures
    (c.next.ensures tables) (c.next_or.ensures tables)
