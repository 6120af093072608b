use Rattle.std.proofs.Common.{ap, ◌+◌}
use Rattle.cf_core.specs.FromUnit.{tables_of}
use Rattle.cf_sequence_expr.proofs.ArgumentLaws.{next_known, next_argument}
use Rattle.cf_sequence_expr.proofs.+values.Goals as goal

pub values::arguments-loop-e-preserved : goal.values::arguments-loop-e-preserved
values::arguments-loop-e-preserved t c = record {
  at = ap (λ i. i + 1) c.loop-e.invariant.at;
  known = next_known (tables_of c.args.unit.now) c.args.all.now c.loop-e.e-index c.e-item.result c.loop-e-test.true c.e-item.is c.loop-e.invariant.known;
  written = next_argument c.args.unit.now.types c.args.types.now c.args.all.now c.loop-e.e-index c.loop-e.index c.e-item.result c.type_at.result c.args.full c.args.n
      c.args.first c.loop-e.w c.argument.new.w _ c.loop-e-test.true c.e-item.is c.type_at.ensures c.in_ok-argument.ensures c.loop-e.invariant.written;
}
