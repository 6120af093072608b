use Rattle.cf_core.specs.FromUnit.{tables_of}
use Rattle.cf_core.specs.Numbers.{static_known}
use Rattle.cf_sequence_built.proofs.Named.{own_type}
use Rattle.cf_sequence_built.proofs.Walks.{known_here}
use Rattle.cf_sequence_built.proofs.files.in_statics.Goals as goal

pub in_static-found-requires : goal.in_static-found-requires
in_static-found-requires c = record {
  known = known_here (static_known (tables_of c.args.unit.now)) c.statics-x-items.result.now c.loop-x.x-index c.x-item.result c.loop-x-test.true c.x-item.is
      c.loop-x.invariant.known;
  named = own_type c.args.unit.now c.functions-valid.ensures.valid c.statics-x-items.result.now c.statics-x-items.ensures c.loop-x.x-index c.x-item.result
      c.loop-x-test.true c.x-item.is;
}
