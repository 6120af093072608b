use Rattle.std.proofs.Common.{ap}
use Rattle.cf_core.specs.declared.operators.PointerOperator.{PointerOperator}
use Rattle.cf_lower.specs.Kept.{operated_kept}
use Rattle.cf_lowerable_types.specs.Kinds.{has_kind}
use Rattle.cf_lowerable_places.specs.Contents.{known}
use Rattle.cf_lowerable_places.proofs.Giving.{difference_fits, order_fits}
use Rattle.cf_lowerable_places.proofs.setting.pointed_kinds.Goals as goal

pub returns-in-Difference : goal.returns-in-Difference
returns-in-Difference c =
    λ tables. difference_fits c.args.op (known tables c.args.left.now) (known tables c.args.right.now) (has_kind c.kinds_within.result) c.in-Difference.is c.kinds_within.ensures

pub returns-in-Less : goal.returns-in-Less
returns-in-Less c =
    λ tables. order_fits c.args.op (known tables c.args.left.now) (known tables c.args.right.now) (has_kind c.all_kinds.result)
    (ap (λ (o : PointerOperator). operated_kept o (known tables c.args.left.now) (known tables c.args.right.now)) c.in-Less.is) c.all_kinds.ensures

pub returns-in-Greater : goal.returns-in-Greater
returns-in-Greater c =
    λ tables. order_fits c.args.op (known tables c.args.left.now) (known tables c.args.right.now) (has_kind c.all_kinds-in-Greater.result)
    (ap (λ (o : PointerOperator). operated_kept o (known tables c.args.left.now) (known tables c.args.right.now)) c.in-Greater.is) c.all_kinds-in-Greater.ensures

pub returns-in-LessEqual : goal.returns-in-LessEqual
returns-in-LessEqual c =
    λ tables. order_fits c.args.op (known tables c.args.left.now) (known tables c.args.right.now) (has_kind c.all_kinds-in-LessEqual.result)
    (ap (λ (o : PointerOperator). operated_kept o (known tables c.args.left.now) (known tables c.args.right.now)) c.in-LessEqual.is) c.all_kinds-in-LessEqual.ensures

pub returns-in-GreaterEqual : goal.returns-in-GreaterEqual
returns-in-GreaterEqual c =
    λ tables. order_fits c.args.op (known tables c.args.left.now) (known tables c.args.right.now) (has_kind c.all_kinds-in-GreaterEqual.result)
    (ap (λ (o : PointerOperator). operated_kept o (known tables c.args.left.now) (known tables c.args.right.now)) c.in-GreaterEqual.is) c.all_kinds-in-GreaterEqual.ensures

pub returns-in-Equal : goal.returns-in-Equal
returns-in-Equal c =
    λ tables. order_fits c.args.op (known tables c.args.left.now) (known tables c.args.right.now) (has_kind c.all_kinds-in-Equal.result)
    (ap (λ (o : PointerOperator). operated_kept o (known tables c.args.left.now) (known tables c.args.right.now)) c.in-Equal.is) c.all_kinds-in-Equal.ensures

pub returns-in-NotEqual : goal.returns-in-NotEqual
returns-in-NotEqual c =
    λ tables. order_fits c.args.op (known tables c.args.left.now) (known tables c.args.right.now) (has_kind c.all_kinds-in-NotEqual.result)
    (ap (λ (o : PointerOperator). operated_kept o (known tables c.args.left.now) (known tables c.args.right.now)) c.in-NotEqual.is) c.all_kinds-in-NotEqual.ensures
