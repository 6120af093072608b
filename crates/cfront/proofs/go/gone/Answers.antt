-- A program was made and started, or memory was wanting before.
use Rattle.std.proofs.Common.{subst}
use Rattle.cfront.specs.declared.answer.Stop.{Stop}
use Rattle.cfront.specs.Steps.{StopLeaves}
use Rattle.cfront.proofs.Causes.{go_so, stopped_by_memory}
use Rattle.cfront.proofs.go.gone.Goals as goal

pub returns-in-Ok-clause-leaves : goal.returns-in-Ok-clause-leaves
returns-in-Ok-clause-leaves g c =
    go_so c.args.file.now c.args.limits (g.F.Files.disk c.args.files.now) (g.F.Files.disk c.translated.new.files)
    (g.I.Source.stream c.args.input.now) (g.O.Sink.stream c.args.out.now) (g.I.Source.stream c.started.new.input) (g.O.Sink.stream c.started.new.out)
    (g.E.Sink.stream c.args.err.now) c.in-Ok.program c.started.result c.in-Ok.ensures.leaves c.started.ensures.leaves

pub returns-in-Err-Memory-clause-leaves : goal.returns-in-Err-Memory-clause-leaves
returns-in-Err-Memory-clause-leaves g c =
    stopped_by_memory c.args.file.now c.args.limits (g.F.Files.disk c.args.files.now) (g.F.Files.disk c.translated.new.files)
    (g.I.Source.stream c.args.input.now) (g.O.Sink.stream c.args.out.now) (g.I.Source.stream c.args.input.now) (g.O.Sink.stream c.args.out.now)
    (g.E.Sink.stream c.args.err.now)
    (subst (λ (e : Stop). StopLeaves c.args.file.now (g.F.Files.disk c.args.files.now) (g.F.Files.disk c.translated.new.files) e) c.in-Err-Memory.field-0-is
    c.in-Err-Memory.ensures.leaves)
