use Rattle.std.proofs.Common.{Some, refl, ap, ◌∙◌}
use Rattle.cf_elab_made.specs.Seen.{label_seen}
use Rattle.cf_elab_statement.proofs.LabelLaws.{none_first, all_left, repeated_here, left_next, has_next, none_repeated}
use Rattle.cf_elab_statement.proofs.labels.repeated_label.Goals as goal

pub loop-made-init : goal.loop-made-init
loop-made-init c = record {
  has = none_first c.args.kind c.args.statements.now c.new-before.result.values.keys c.new-before.result.has_default c.new-before.ensures.values c.new-before.ensures.no_default;
  left = all_left c.args.kind c.args.statements.now;
}

pub returns-then-has : goal.returns-then-has
returns-then-has c =
    ap Some c.at.ensures
    ∙ repeated_here c.args.kind c.args.statements.now c.loop-made.made-index c.made-item.result c.loop-made.before.values.keys c.loop-made.before.has_default
    (label_seen c.label.result.now) c.has.result c.loop-made-test.true c.made-item.is c.loop-made.invariant.has c.loop-made.invariant.left c.label.ensures c.has.ensures c.if-has.true

pub loop-made-preserved : goal.loop-made-preserved
loop-made-preserved c = record {
  has =
      has_next c.args.kind c.args.statements.now c.loop-made.made-index c.made-item.result c.loop-made.before.values.keys c.loop-made.before.has_default
      (label_seen c.label-in-loop-made.result.now) _ c.loop-made-test.true c.made-item.is c.loop-made.invariant.has c.loop-made.invariant.left
      c.label-in-loop-made.ensures refl
      c.add.new.self.values.keys c.add.new.self.has_default c.in_ok-add.ensures;
  left =
      left_next c.args.kind c.args.statements.now c.loop-made.made-index c.made-item.result c.loop-made.before.values.keys c.loop-made.before.has_default
      (label_seen c.label.result.now) c.has.result c.loop-made-test.true c.made-item.is c.loop-made.invariant.has c.loop-made.invariant.left c.label.ensures c.has.ensures c.if-has.false;
}

pub returns : goal.returns
returns c = none_repeated c.args.kind c.args.statements.now c.loop-made.made-index c.loop-made-test.false c.loop-made.invariant.left
