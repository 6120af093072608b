use Rattle.std.proofs.Common.{◌∙◌, ◌+◌, ap, sym, map, drop}
use Rattle.cc_whole.specs.Plain.{expression_of}
use Rattle.cc_whole_mean.specs.Values.{values_of}
use Rattle.cc_whole_memory.specs.Store.{answer, act_number, memory_of}
use Rattle.cc_whole_eval.proofs.ValueLaws.{behind, behind-nothing, values-step, values-fails, values-end}
use Rattle.cc_whole_eval.proofs.expression.values.Goals as goal

pub loop-e-init : goal.loop-e-init
loop-e-init g c =
    behind-nothing (values_of (map expression_of c.args.all.now) (g.N.Names.scope c.args.names.now) (memory_of c.args.store.now))
    ∙ ap (λ f. behind f (values_of (map expression_of c.args.all.now) (g.N.Names.scope c.args.names.now) (memory_of c.args.store.now))) (sym c.new-found.ensures.items)

pub loop-e-preserved : goal.loop-e-preserved
loop-e-preserved g c =
    c.loop-e.invariant
    ∙ values-step c.loop-e.found.items c.args.all.now c.loop-e.e-index c.e-item.result c.in-Ok.v (g.N.Names.scope c.args.names.now) (memory_of c.args.store.now)
    c.loop-e-test.true c.e-item.is (sym c.value.ensures ∙ ap answer c.in-Ok.is)
    ∙ ap (λ f. behind f (values_of (map expression_of (drop (c.loop-e.e-index + 1) c.args.all.now)) (g.N.Names.scope c.args.names.now) (memory_of c.args.store.now)))
    (sym c.in_ok-push-in-Ok.ensures.items)

pub returns-in-Err-clause-err : goal.returns-in-Err-clause-err
returns-in-Err-clause-err g c =
    c.loop-e.invariant
    ∙ values-fails c.loop-e.found.items c.args.all.now c.loop-e.e-index c.e-item.result (act_number c.in-Err.act) (g.N.Names.scope c.args.names.now) (memory_of c.args.store.now)
    c.loop-e-test.true c.e-item.is (sym c.value.ensures ∙ ap answer c.in-Err.is)

pub returns-clause-ok : goal.returns-clause-ok
returns-clause-ok g c =
    c.loop-e.invariant
    ∙ values-end c.loop-e.found.items c.args.all.now c.loop-e.e-index (g.N.Names.scope c.args.names.now) (memory_of c.args.store.now) c.loop-e-test.false
