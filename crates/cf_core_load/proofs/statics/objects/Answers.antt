use Rattle.std.proofs.Common.{◌∙◌, ap, map, drop, ◌+◌, List}
use Rattle.std.proofs.lemmas.Result.{err_from_is_err_and}
use Rattle.cf_core.specs.FromUnit.{tables_of}
use Rattle.cf_core.specs.Numbers.{static_known}
use Rattle.cf_run_tree.specs.declared.program.RunStatic.{RunStatic}
use Rattle.cf_core_node.specs.Formed.{all}
use Rattle.cf_core_node.proofs.Loops.{in_front, stopped, going}
use Rattle.cf_core_load.specs.Files.{object}
use Rattle.cf_core_load.proofs.Passing.{passes_at}
use Rattle.cf_core_load.proofs.statics.objects.Goals as goal

pub object-requires : goal.object-requires
object-requires c =
    passes_at (static_known (tables_of c.args.unit.now)) c.args.all.now c.loop-x.x-index c.x-item.result c.requires c.loop-x-test.true c.x-item.is

pub returns-in_err-object : goal.returns-in_err-object
returns-in_err-object c =
    let p = err_from_is_err_and c.from_residual.result c.from_residual.ensures.1 in
    rw (p.1, p.2)
    (stopped (object c.args.unit.now.types c.args.defined.now) c.loop-x.found c.args.all.now c.loop-x.x-index c.x-item.result c.loop-x.invariant c.loop-x-test.true c.x-item.is
    c.in_err-object.field-0.0 c.in_err-object.ensures)

pub loop-x-preserved : goal.loop-x-preserved
loop-x-preserved c =
    let f = object c.args.unit.now.types c.args.defined.now in
    ap (λ (l : List RunStatic). in_front l (all (map f (drop (c.loop-x.x-index + 1) c.args.all.now)))) c.in_ok-push.ensures.ok
    ∙ going f c.loop-x.found c.args.all.now c.loop-x.x-index c.x-item.result c.loop-x.invariant c.loop-x-test.true c.x-item.is c.in_ok-object.field-0 c.in_ok-object.ensures
