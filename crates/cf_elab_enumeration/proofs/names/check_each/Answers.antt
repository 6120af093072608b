use Rattle.std.proofs.Common.{rules, ◌≤◌, length, ◌∙◌}
use Rattle.cf_elab_enumeration.proofs.NewLaws.{all_named, each_named, next_named}
use Rattle.cf_elab_enumeration.proofs.names.check_each.Goals as goal

pub returns-in_err-check_new : goal.returns-in_err-check_new
returns-in_err-check_new c =
    rw (each_named c.args.before.now c.loop-one.before c.args.list.now c.loop-one.one-index c.args.env.now c.loop-one.invariant c.one-item.result c.as_slice-name.result.now c.at.result
    c.loop-one-test.true c.one-item.is (c.as_slice-name.ensures ∙ c.name.ensures) c.at.ensures) (search rules)

pub loop-one-preserved : goal.loop-one-preserved
loop-one-preserved c =
    next_named c.args.before.now c.loop-one.before c.args.list.now c.loop-one.one-index c.args.env.now c.loop-one.invariant c.one-item.result c.add.new.self c.as_slice-name.result.now
    c.at.result c.loop-one-test.true c.one-item.is (c.as_slice-name.ensures ∙ c.name.ensures) c.at.ensures c.in_ok-check_new.ensures c.in_ok-add.ensures

pub returns : goal.returns
returns c =
    let past : length c.args.list.now ≤ c.loop-one.one-index = search rules in
    all_named c.args.before.now c.loop-one.before c.args.list.now c.loop-one.one-index c.args.env.now c.loop-one.invariant past
