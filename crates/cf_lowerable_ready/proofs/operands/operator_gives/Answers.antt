use Rattle.cf_lowerable_ready.specs.Contents.{known}
use Rattle.cf_lowerable_ready.proofs.GivenLaws.{compares, computes}
use Rattle.cf_lowerable_ready.proofs.operands.operator_gives.Goals as goal

pub returns-then-is_comparison : goal.returns-then-is_comparison
returns-then-is_comparison c =
    λ tables. compares c.args.op c.args.kind (known tables c.truth.result) c.is_comparison.result c.is_comparison.ensures c.if-is_comparison.true (c.truth.ensures tables)

pub returns-else-is_comparison : goal.returns-else-is_comparison
returns-else-is_comparison c =
    λ tables. computes c.args.op c.args.kind (known tables c.of_kind.result) c.is_comparison.result c.is_comparison.ensures c.if-is_comparison.false (c.of_kind.ensures tables)
