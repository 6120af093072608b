use Rattle.std.proofs.Common.{◌∙◌, Option, Result, Ok, ap, refl, subst, false}
use Rattle.cf_base.specs.declared.memory.Memory.{Memory}
use Rattle.cc_whole_run.specs.declared.types.End.{End}
use Rattle.cf_streams.specs.Streams.{streams}
use Rattle.cc_whole_run.specs.Going.{TurnsTo}
use Rattle.cc_whole_run.proofs.GoingLaws.{going-starts, going-broken}
use Rattle.cc_whole_run.proofs.run.go.Goals as goal

pub loop-init : goal.loop-init
loop-init g c means n same below = going-starts means n c.args.moment (streams (g.I.Source.stream c.args.input.now) (g.O.Sink.stream c.args.out.now)) (record { entered = 0; at_end = false }) refl refl same below

pub returns-in-Err : goal.returns-in-Err
returns-in-Err g c means n same below =
    subst (λ (r : Result (Option End) Memory). TurnsTo means n (streams (g.I.Source.stream c.args.input.now) (g.O.Sink.stream c.args.out.now)) c.turn.new.moment (streams (g.I.Source.stream c.turn.new.input) (g.O.Sink.stream c.turn.new.out)) c.turn.new.tally r) (c.in-Err.is)
    (c.turn.ensures means n (streams (g.I.Source.stream c.args.input.now) (g.O.Sink.stream c.args.out.now)) (c.loop.invariant means n same below))

pub returns-in-Ok-Some : goal.returns-in-Ok-Some
returns-in-Ok-Some g c means n same below =
    subst (λ (r : Result (Option End) Memory). TurnsTo means n (streams (g.I.Source.stream c.args.input.now) (g.O.Sink.stream c.args.out.now)) c.turn.new.moment (streams (g.I.Source.stream c.turn.new.input) (g.O.Sink.stream c.turn.new.out)) c.turn.new.tally r) (c.in-Ok-Some.is ∙ ap Ok c.in-Ok-Some.field-0-is)
    (c.turn.ensures means n (streams (g.I.Source.stream c.args.input.now) (g.O.Sink.stream c.args.out.now)) (c.loop.invariant means n same below))

pub loop-preserved : goal.loop-preserved
loop-preserved g c means n same below =
    subst (λ (r : Result (Option End) Memory). TurnsTo means n (streams (g.I.Source.stream c.args.input.now) (g.O.Sink.stream c.args.out.now)) c.turn.new.moment (streams (g.I.Source.stream c.turn.new.input) (g.O.Sink.stream c.turn.new.out)) c.turn.new.tally r) (c.in-Ok-None.is ∙ ap Ok c.in-Ok-None.field-0-is)
    (c.turn.ensures means n (streams (g.I.Source.stream c.args.input.now) (g.O.Sink.stream c.args.out.now)) (c.loop.invariant means n same below))

pub returns : goal.returns
returns g c means n same below = going-broken means n c.loop.moment (streams (g.I.Source.stream c.args.input.now) (g.O.Sink.stream c.args.out.now)) (streams (g.I.Source.stream c.loop.input) (g.O.Sink.stream c.loop.out)) c.loop.tally (c.loop.invariant means n same below)
