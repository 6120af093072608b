use Rattle.std.proofs.Common.{rules, ◌≤◌, length, sym, ◌∙◌}
use Rattle.cf_elab_enumeration.proofs.CheckLaws.{ints_end, one_int, one_other, more_ints, ints_are}
use Rattle.cf_elab_enumeration.proofs.checks.check_ints.Goals as goal

pub returns-then-not-is_int-clause-made : goal.returns-then-not-is_int-clause-made
returns-then-not-is_int-clause-made c =
    rw (one_other c.args.list.now c.loop-one.one-index c.args.env.now c.loop-one.invariant.left c.one-item.result c.loop-one-test.true c.one-item.is
    (sym c.is_int.ensures ∙ c.if-not-is_int.true)) (search rules)

pub loop-one-preserved : goal.loop-one-preserved
loop-one-preserved c =
    let list = c.args.list.now in
    let fine = sym c.is_int.ensures ∙ c.if-not-is_int.false in
    record {
      left = one_int list c.loop-one.one-index c.args.env.now c.loop-one.invariant.left c.one-item.result c.loop-one-test.true c.one-item.is fine;
      ints = more_ints list c.loop-one.one-index c.one-item.result c.loop-one-test.true c.one-item.is fine c.loop-one.invariant.ints;
    }

pub returns-clause-made : goal.returns-clause-made
returns-clause-made c =
    let past : length c.args.list.now ≤ c.loop-one.one-index = search rules in
    ints_end c.args.list.now c.loop-one.one-index c.args.env.now c.loop-one.invariant.left past

pub returns-clause-ints : goal.returns-clause-ints
returns-clause-ints c =
    let past : length c.args.list.now ≤ c.loop-one.one-index = search rules in
    ints_are c.args.list.now c.loop-one.one-index past c.loop-one.invariant.ints
