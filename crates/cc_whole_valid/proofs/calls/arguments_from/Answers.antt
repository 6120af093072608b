use Rattle.std.proofs.lemmas.Result.{err_from_is_err_and}
use Rattle.cf_name_list.proofs.ListLaws.{left_is}
use Rattle.cc_whole_valid.specs.Memory.{type_at}
use Rattle.cc_whole_valid.proofs.SignatureLaws.{argument_stops, argument_passed}
use Rattle.cc_whole_valid.proofs.calls.arguments_from.Goals as goal

pub returns-in_err-argument_from : goal.returns-in_err-argument_from
returns-in_err-argument_from c =
    let p = err_from_is_err_and c.from_residual.result c.from_residual.ensures.1 in
    rw (p.1, p.2)
    (argument_stops (type_at c.args.s).parameters c.args.all.now c.args.names.now c.loop-index.index c.loop-index.at c.args.at.now c.parameter.result c.index-all-index.result
    c.parameter.ensures (left_is c.args.all.now c.loop-index.index c.index-all-index.result c.loop-index-test.true c.index-all-index.is)
    c.loop-index.invariant _ c.in_err-argument_from.ensures)

pub loop-index-preserved : goal.loop-index-preserved
loop-index-preserved c =
    argument_passed (type_at c.args.s).parameters c.args.all.now c.args.names.now c.loop-index.index c.loop-index.at c.args.at.now c.parameter.result c.index-all-index.result
    c.parameter.ensures (left_is c.args.all.now c.loop-index.index c.index-all-index.result c.loop-index-test.true c.index-all-index.is)
    c.loop-index.invariant _ c.argument_from.new.at c.in_ok-argument_from.ensures
