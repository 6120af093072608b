use Rattle.std.proofs.Common.{◌≤◌, ◌<◌, ◌∙◌, length, rules}
use Rattle.std.proofs.lemmas.Result.{err_from_is_err_and}
use Rattle.cf_elab_limits.proofs.SinceLaws.{none_left, next_fits, next_stops}
use Rattle.cf_elab_limits.proofs.within.check_types.Goals as goal

pub returns-in_err-check_number : goal.returns-in_err-check_number
returns-in_err-check_number c =
    let there : c.loop-number.number < length c.args.env.now.types.types = search rules in
    let p = err_from_is_err_and c.from_residual.result c.from_residual.ensures.1 in
    rw (p.1, p.2)
    (next_stops c.args.env.now c.args.count c.loop-number.number c.loop-number.invariant there c.in_err-check_number.field-0.0 c.in_err-check_number.ensures)

pub loop-number-preserved : goal.loop-number-preserved
loop-number-preserved c =
    let there : c.loop-number.number < length c.args.env.now.types.types = search rules in
    next_fits c.args.env.now c.args.count c.loop-number.number c.loop-number.invariant there c.in_ok-check_number.ensures

pub returns : goal.returns
returns c =
    let past : length c.args.env.now.types.types ≤ c.loop-number.number = search rules in
    c.loop-number.invariant ∙ none_left c.args.env.now c.loop-number.number past
