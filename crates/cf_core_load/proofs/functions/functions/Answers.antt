use Rattle.std.proofs.Common.{◌∙◌, ap, map, drop, ◌+◌, List}
use Rattle.std.proofs.lemmas.Result.{err_from_is_err_and}
use Rattle.cf_core.specs.FromUnit.{tables_of}
use Rattle.cf_core.specs.Numbers.{function_known}
use Rattle.cf_run_tree.specs.declared.program.RunFn.{RunFn}
use Rattle.cf_core_node.specs.Formed.{all}
use Rattle.cf_core_node.proofs.Loops.{in_front, stopped, going}
use Rattle.cf_core_load.specs.Files.{function}
use Rattle.cf_core_load.proofs.Passing.{passes_at}
use Rattle.cf_core_load.proofs.functions.functions.Goals as goal

pub function-requires : goal.function-requires
function-requires c =
    passes_at (function_known (tables_of c.args.unit.now)) c.args.all.now c.loop-f.f-index c.f-item.result c.requires c.loop-f-test.true c.f-item.is

pub returns-in_err-function : goal.returns-in_err-function
returns-in_err-function c =
    let p = err_from_is_err_and c.from_residual.result c.from_residual.ensures.1 in
    rw (p.1, p.2)
    (stopped (function c.args.unit.now.types c.args.defined.now) c.loop-f.found c.args.all.now c.loop-f.f-index c.f-item.result c.loop-f.invariant c.loop-f-test.true c.f-item.is
    c.in_err-function.field-0.0 c.in_err-function.ensures)

pub loop-f-preserved : goal.loop-f-preserved
loop-f-preserved c =
    let f = function c.args.unit.now.types c.args.defined.now in
    ap (λ (l : List RunFn). in_front l (all (map f (drop (c.loop-f.f-index + 1) c.args.all.now)))) c.in_ok-push.ensures.ok
    ∙ going f c.loop-f.found c.args.all.now c.loop-f.f-index c.f-item.result c.loop-f.invariant c.loop-f-test.true c.f-item.is c.in_ok-function.field-0 c.in_ok-function.ensures
