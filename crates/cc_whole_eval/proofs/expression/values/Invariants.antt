use Rattle.std.proofs.Common.{◌≡◌, map, drop}
use Rattle.cc_whole.specs.Plain.{expression_of}
use Rattle.cc_whole_mean.specs.Values.{values_of}
use Rattle.cc_whole_memory.specs.Store.{memory_of}
use Rattle.cc_whole_eval.proofs.ValueLaws.{behind}
use Rattle.cc_whole_eval.proofs.expression.values.Given as goal

abbrev pub invariant-loop-e : goal.invariant-loop-e
invariant-loop-e g l =
    values_of (map expression_of l.all) (g.N.Names.scope l.names) (memory_of l.store)
    ≡ behind l.found.items (values_of (map expression_of (drop l.e-index l.all)) (g.N.Names.scope l.names) (memory_of l.store))
