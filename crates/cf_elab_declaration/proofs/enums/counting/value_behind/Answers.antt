use Rattle.std.proofs.lemmas.Result.{err_from_is_err_and}
use Rattle.cf_elab_declaration.proofs.EnumsLaws.CountingLaws.{some_stops, some_made}
use Rattle.cf_elab_declaration.proofs.enums.counting.value_behind.Goals as goal

pub returns-in_err-value-in-Some-clause-made : goal.returns-in_err-value-in-Some-clause-made
returns-in_err-value-in-Some-clause-made c =
    let p = err_from_is_err_and c.from_residual.result c.from_residual.ensures.1 in
    rw (p.1, p.2)
    (some_stops c.args.ty c.args.e.now c.args.env.now (c.in-Some.field-0-0, c.in-Some.expression) c.as_slice.result.now c.get.result.now c.in-Some.is c.as_slice.ensures c.get.ensures
    c.in_err-value-in-Some.field-0.0 c.in_err-value-in-Some.ensures.made)

pub returns-in_ok-value-in-Some-clause-made : goal.returns-in_ok-value-in-Some-clause-made
returns-in_ok-value-in-Some-clause-made c =
    some_made c.args.ty c.args.e.now c.args.env.now (c.in-Some.field-0-0, c.in-Some.expression) c.as_slice.result.now c.get.result.now c.in-Some.is c.as_slice.ensures c.get.ensures
    c.in_ok-value-in-Some.value c.own_value.new.env c.in_ok-value-in-Some.ensures.made
