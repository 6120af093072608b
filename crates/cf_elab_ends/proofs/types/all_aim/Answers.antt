use Rattle.std.proofs.Common.{◌≤◌, ◌<◌, ◌∙◌, length, rules, sym}
use Rattle.cf_elab_ends.proofs.AimLaws.{none_left, next_wrong, next_right}
use Rattle.cf_elab_ends.proofs.types.all_aim.Goals as goal

pub returns-then-not-number_aims : goal.returns-then-not-number_aims
returns-then-not-number_aims c =
    let there : c.loop-number.number < length c.args.env.now.types.types = search rules in
    next_wrong c.args.env.now.types c.loop-number.number c.loop-number.invariant there (sym c.number_aims.ensures ∙ c.if-not-number_aims.true)

pub loop-number-preserved : goal.loop-number-preserved
loop-number-preserved c =
    let there : c.loop-number.number < length c.args.env.now.types.types = search rules in
    next_right c.args.env.now.types c.loop-number.number c.loop-number.invariant there (sym c.number_aims.ensures ∙ c.if-not-number_aims.false)

pub returns : goal.returns
returns c =
    let past : length c.args.env.now.types.types ≤ c.loop-number.number = search rules in
    none_left c.args.env.now.types c.loop-number.number c.loop-number.invariant past
