use Rattle.cf_lowerable_ready.specs.Contents.{known}
use Rattle.cf_lowerable_ready.proofs.GivenLaws.{right_of_shift, right_of_other}
use Rattle.cf_lowerable_ready.proofs.operands.right_has.Goals as goal

pub returns-then-is_shift : goal.returns-then-is_shift
returns-then-is_shift c =
    λ tables. right_of_shift c.args.op c.args.kind (known tables c.args.content.now) c.is_integer.result c.is_shift.result c.is_shift.ensures c.if-is_shift.true (c.is_integer.ensures tables)

pub returns-else-is_shift : goal.returns-else-is_shift
returns-else-is_shift c =
    λ tables. right_of_other c.args.op c.args.kind (known tables c.args.content.now) c.has_kind.result c.is_shift.result c.is_shift.ensures c.if-is_shift.false (c.has_kind.ensures.has tables)
