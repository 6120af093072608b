use Rattle.std.proofs.Common.{rules, ◌∙◌}
use Rattle.cf_elab_operators.proofs.OperatorsLaws.OneLaws.{behind}
use Rattle.cf_elab_operators.proofs.operators.one.step_operator.Goals as goal

pub returns-in_err-value-clause-made : goal.returns-in_err-value-clause-made
returns-in_err-value-clause-made c =
    let int = c.in_ok-_second.ensures in
    let is =
    behind c.args.at c.args.op c.args.operand c.args.is_postfix c.args.env.now c.int.new.self c.in_ok-_second._second c.if-is_postfix.true int.made c.holds.ensures int.grows
    c.requires int.known in
    rw is (search rules)

pub returns-in_ok-value-clause-made : goal.returns-in_ok-value-clause-made
returns-in_ok-value-clause-made c =
    let int = c.in_ok-_second.ensures in
    let is =
    behind c.args.at c.args.op c.args.operand c.args.is_postfix c.args.env.now c.int.new.self c.in_ok-_second._second c.if-is_postfix.true int.made c.holds.ensures int.grows
    c.requires int.known in
    is ∙ c.in_ok-value.ensures.made
