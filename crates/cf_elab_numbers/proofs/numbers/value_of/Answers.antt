use Rattle.std.proofs.Common.{w64}
use Rattle.std.proofs.lemmas.Int.{to_z-of_z}
use Rattle.cf_elab_numbers.proofs.Known.{fits_of_result}
use Rattle.cf_elab_numbers.proofs.numbers.value_of.Goals as goal

-- src/numbers.rt:30:1
pub returns-clause-fits : goal.returns-clause-fits
returns-clause-fits c =
    let stored = rw (to_z-of_z w64 c.args.a c.ranges.a, to_z-of_z w64 c.args.b c.ranges.b) at c.int_op.ensures in
    fits_of_result c.args.op c.args.kind c.args.a c.args.b c.int_op.result c.requires.left stored
