-- The run's end, and what the flush behind it leaves.
use Rattle.std.proofs.Common.{inl, inr, subst}
use Rattle.std.proofs.lemmas.Result.{err_from_is_err_and}
use Rattle.cc_whole_run.specs.declared.types.End.{End}
use Rattle.cc_whole_run.specs.Run.{LeavesAt, meant}
use Rattle.cf_streams.specs.Streams.{streams}
use Rattle.cfront.proofs.Runs.{flush_done, flush_failed, leaves_tells, flush_tells, sink_failed}
use Rattle.cfront.proofs.running.run_program.Goals as goal

pub returns-in_err-ran-clause-leaves : goal.returns-in_err-ran-clause-leaves
returns-in_err-ran-clause-leaves g c =
    let p = err_from_is_err_and c.from_residual.result c.from_residual.ensures.1 in
    rw (p.1) (rw (← c.new-machine.ensures.program, ← c.new-machine.ensures.limits) c.in_err-ran.ensures)

pub returns-in-SinkFault-clause-leaves : goal.returns-in-SinkFault-clause-leaves
returns-in-SinkFault-clause-leaves g c =
    let old = streams (g.I.Source.stream c.args.input.now) (g.O.Sink.stream c.args.out.now) in
    let new = streams (g.I.Source.stream c.run.new.input) (g.O.Sink.stream c.run.new.out) in
    let means = meant c.new-machine.result.program.now c.new-machine.result.limits in
    let left = subst (λ (e : End). LeavesAt means old new c.in_ok-ran.ran.entered e) c.in-SinkFault.is c.in_ok-ran.ensures in
    rw (← c.new-machine.ensures.program, ← c.new-machine.ensures.limits)
    (record { entered = c.in_ok-ran.ran.entered; runs = sink_failed means old new c.in_ok-ran.ran.entered left })

pub returns-in_default-clause-leaves : goal.returns-in_default-clause-leaves
returns-in_default-clause-leaves g c =
    let left = c.in_ok-ran.ensures in
    rw (← c.new-machine.ensures.program, ← c.new-machine.ensures.limits)
    (record {
      entered = c.in_ok-ran.ran.entered;
      runs = elim c.flushed.ensures [
        | inl done ↦ flush_done _ _ _ _ _ _ _ _ left done
        | inr failed ↦ flush_failed _ _ _ _ _ _ _ _ left failed
      ];
    })

pub returns-in_default-clause-told : goal.returns-in_default-clause-told
returns-in_default-clause-told g c = flush_tells _ _ _ _ _ _ (leaves_tells _ _ _ _ _ c.in_ok-ran.ensures) c.flushed.ensures
