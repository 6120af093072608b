use Rattle.cf_core.specs.FromUnit.{tables_of}
use Rattle.cf_core.specs.Numbers.{function_known}
use Rattle.cf_sequence_built.proofs.Walks.{known_here}
use Rattle.cf_sequence_built.proofs.files.in_functions.Goals as goal

pub in_function-found-requires : goal.in_function-found-requires
in_function-found-requires c =
    known_here (function_known (tables_of c.args.unit.now)) c.functions-f-items.result.now c.loop-f.f-index c.f-item.result c.loop-f-test.true c.f-item.is
    c.loop-f.invariant.known
