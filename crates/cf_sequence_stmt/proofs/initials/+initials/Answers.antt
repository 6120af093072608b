use Rattle.cf_core.specs.FromUnit.{tables_of}
use Rattle.cf_sequence_expr.proofs.ArgumentLaws.{next_known}
use Rattle.cf_sequence_stmt.proofs.ListLaws.{next_element, one_left}
use Rattle.cf_sequence_stmt.proofs.initials.+initials.Goals as goal

pub elements-loop-e-preserved : goal.elements-loop-e-preserved
elements-loop-e-preserved t c = record {
  known = next_known (tables_of c.args.unit.now) c.args.all.now c.loop-e.e-index c.e-item.result c.loop-e-test.true c.e-item.is c.loop-e.invariant.known;
  written = next_element c.args.unit.now.types c.args.ty c.args.n c.args.free c.args.all.now c.loop-e.e-index c.loop-e.index c.in_ok-index.index c.e-item.result
      c.loop-e.w c.element_placed.new.w c.started.new.w _ c.loop-e-test.true c.e-item.is c.in_ok-element_placed.ensures c.in_ok-started.ensures c.in_ok-index.ensures c.loop-e.invariant.written;
}

pub left_out-loop-preserved : goal.left_out-loop-preserved
left_out-loop-preserved t c =
    one_left c.args.unit.now.types c.args.e.now c.args.ty c.args.n c.args.free c.loop.index c.in_ok-index-2.index c.saturating_sub-count.result c.loop.counter
    c.loop.w c.element_placed.new.w c.started.new.w _ c.loop-test.true c.in_ok-element_placed.ensures c.in_ok-started.ensures c.in_ok-index-2.ensures c.loop.invariant
