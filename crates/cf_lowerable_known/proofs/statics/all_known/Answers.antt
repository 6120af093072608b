use Rattle.cf_lowerable_known.proofs.Files.{next_fails, next_passes}
use Rattle.cf_lowerable_known.proofs.statics.all_known.Goals as goal

pub returns-then-not-branch : goal.returns-then-not-branch
returns-then-not-branch c =
    next_fails c.args.tables.now c.args.names.now c.args.statics.now c.loop-object.object-index c.object-item.result c.loop-object-test.true c.object-item.is
    c.in_ok-static_known.field-0 _ c.in_ok-static_known.ensures c.loop-object.invariant c.if-not-branch.true

pub loop-object-preserved : goal.loop-object-preserved
loop-object-preserved c =
    next_passes c.args.tables.now c.args.names.now c.args.statics.now c.loop-object.object-index c.object-item.result c.loop-object-test.true c.object-item.is
    c.in_ok-static_known.field-0 _ c.in_ok-static_known.ensures c.loop-object.invariant c.if-not-branch.false
