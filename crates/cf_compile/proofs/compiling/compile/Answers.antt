use Rattle.std.proofs.Common.{sym}
use Rattle.std.proofs.lemmas.Result.{err_from_is_err_and}
use Rattle.cf_compile.proofs.Answered.{without-core, not-sequenced, made-of}
use Rattle.cf_compile.proofs.compiling.compile.Goals as goal

pub returns-in_err-core : goal.returns-in_err-core
returns-in_err-core c =
    let p = err_from_is_err_and c.from_residual.result c.from_residual.ensures.1 in
    rw (p.1, p.2) (without-core c.args.bytes.now c.in_err-core.field-0.0 c.in_err-core.ensures)

pub returns-in-Some : goal.returns-in-Some
returns-in-Some c = not-sequenced c.args.bytes.now c.in_ok-core.core c.in_ok-core.ensures c.in-Some.at c.unbuilt_at.result (sym c.in-Some.ensures) c.unbuilt_at.ensures

pub returns-in-None : goal.returns-in-None
returns-in-None c = made-of c.args.bytes.now c.in_ok-core.core c.in_ok-core.ensures (sym c.in-None.ensures) c.built.result c.built.ensures
