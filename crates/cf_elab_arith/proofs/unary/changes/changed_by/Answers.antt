use Rattle.cf_elab_arith.proofs.UnaryLaws.ChangeLaws.{changed}
use Rattle.cf_elab_arith.proofs.unary.changes.changed_by.Goals as goal

pub returns-in_ok-stepped-in-Some-clause-made : goal.returns-in_ok-stepped-in-Some-clause-made
returns-in_ok-stepped-in-Some-clause-made c =
    changed c.args.at c.args.is_postfix c.args.change _ c.args.value c.in_ok-stepped-in-Some.stepped c.args.env.now c.in-Some.is c.in_ok-stepped-in-Some.ensures.made
