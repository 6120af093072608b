use Rattle.std.proofs.Common.{◌+ℤ◌, ◌-ℤ◌, ◌∙◌}
use Rattle.std.specs.Result.{result_ok}
use Rattle.cf_base.specs.Integers.{ranged}
use Rattle.cf_types.proofs.Computed.{stored, sum-fits, difference-fits}
use Rattle.cf_types.proofs.arithmetic.int_op.Goals as goal

pub returns-in-Add : goal.returns-in-Add
returns-in-Add c =
    rw c.in-Add.is (c.ranged.ensures ∙ stored (λ z. result_ok (ranged c.args.kind z)) (λ x y. x +ℤ y) c.args.a c.args.b c.ranges.a c.ranges.b
    (sum-fits c.args.kind c.args.a c.args.b c.requires.left (rw c.in-Add.is at c.requires.right)))

pub returns-in-Subtract : goal.returns-in-Subtract
returns-in-Subtract c =
    rw c.in-Subtract.is (c.ranged-in-Subtract.ensures ∙ stored (λ z. result_ok (ranged c.args.kind z)) (λ x y. x -ℤ y) c.args.a c.args.b c.ranges.a c.ranges.b
    (difference-fits c.args.kind c.args.a c.args.b c.requires.left (rw c.in-Subtract.is at c.requires.right)))
