use Rattle.std.proofs.Common.{◌<◌, ◌≤◌, length, arith}
use Rattle.cf_lowerable_open.specs.Told.{all_told}
use Rattle.cf_lowerable_open.proofs.Sides.{equally_long, open_end, open_longer, open_next, open_stop}
use Rattle.cf_lowerable_open.proofs.Telling.{length_told, long_told}
use Rattle.cf_lowerable_open.proofs.lists.same_open.Goals as goal

pub returns-then-not-same_length : goal.returns-then-not-same_length
returns-then-not-same_length c = open_longer (all_told c.args.left.now) (all_told c.args.right.now) c.same_length.result (long_told c.args.left.now c.args.right.now c.same_length.result c.same_length.ensures) c.if-not-same_length.true

pub returns-then-not-open_at : goal.returns-then-not-open_at
returns-then-not-open_at c =
    let within : c.loop-index.index < length (all_told c.args.left.now) = omega (arith, c.loop-index-test.true, length_told c.args.left.now) in
    open_stop (all_told c.args.left.now) (all_told c.args.right.now) c.loop-index.index within
    (equally_long (all_told c.args.left.now) (all_told c.args.right.now) c.same_length.result (long_told c.args.left.now c.args.right.now c.same_length.result c.same_length.ensures) c.if-not-same_length.false) c.open_at.result c.open_at.ensures c.if-not-open_at.true
    c.loop-index.invariant

pub loop-index-preserved : goal.loop-index-preserved
loop-index-preserved c =
    let within : c.loop-index.index < length (all_told c.args.left.now) = omega (arith, c.loop-index-test.true, length_told c.args.left.now) in
    open_next (all_told c.args.left.now) (all_told c.args.right.now) c.loop-index.index within
    (equally_long (all_told c.args.left.now) (all_told c.args.right.now) c.same_length.result (long_told c.args.left.now c.args.right.now c.same_length.result c.same_length.ensures) c.if-not-same_length.false) c.open_at.result c.open_at.ensures c.if-not-open_at.false
    c.loop-index.invariant

pub returns : goal.returns
returns c =
    let past : length (all_told c.args.left.now) ≤ c.loop-index.index = omega (arith, c.loop-index-test.false, length_told c.args.left.now) in
    open_end (all_told c.args.left.now) (all_told c.args.right.now) c.loop-index.index past
    (equally_long (all_told c.args.left.now) (all_told c.args.right.now) c.same_length.result (long_told c.args.left.now c.args.right.now c.same_length.result c.same_length.ensures) c.if-not-same_length.false) c.loop-index.invariant
