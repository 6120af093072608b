use Rattle.std.proofs.Common.{rules, ◌≤◌, length, sym, ◌∙◌}
use Rattle.cf_elab_enumeration.proofs.CheckLaws.{constants_end, one_constant, one_variable}
use Rattle.cf_elab_enumeration.proofs.checks.check_constant.Goals as goal

pub returns-then-not-is_constant : goal.returns-then-not-is_constant
returns-then-not-is_constant c =
    rw (one_variable c.args.list.now c.loop-one.one-index c.args.env.now c.loop-one.invariant c.one-item.result c.loop-one-test.true c.one-item.is
    (sym c.is_constant.ensures ∙ c.if-not-is_constant.true)) (search rules)

pub loop-one-preserved : goal.loop-one-preserved
loop-one-preserved c =
    one_constant c.args.list.now c.loop-one.one-index c.args.env.now c.loop-one.invariant c.one-item.result c.loop-one-test.true c.one-item.is
    (sym c.is_constant.ensures ∙ c.if-not-is_constant.false)

pub returns : goal.returns
returns c =
    let past : length c.args.list.now ≤ c.loop-one.one-index = search rules in
    constants_end c.args.list.now c.loop-one.one-index c.args.env.now c.loop-one.invariant past
