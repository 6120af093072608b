use Rattle.std.proofs.Common.{◌≡◌, ◌∙◌, Option, Result, Ok, ap, refl, subst, arith}
use Rattle.cf_core_drive.specs.declared.types.End.{End}
use Rattle.cf_core_drive.specs.declared.types.Fault.{Fault}
use Rattle.cf_core_drive.specs.Run.{streams, ahead_of}
use Rattle.cf_core_drive.specs.Going.{TurnsTo, Nears}
use Rattle.cf_core_drive.proofs.machine.turns.Goals as goal

pub steps-init : goal.steps-init
steps-init g c = record { turns = λ T around means old h. h; ticks = refl }

pub returns-in-Err-clause-turns : goal.returns-in-Err-clause-turns
returns-in-Err-clause-turns g c = λ T around means old h.
    subst (λ (r : Result (Option End) Fault). TurnsTo (ahead_of T c.args.program.now around) means old c.turn.new.machine (streams (g.I.Source.stream c.turn.new.input) (g.O.Sink.stream c.turn.new.out)) c.turn.new.tally r) c.in-Err.is
    (c.turn.ensures.turns T around means old (c.steps.invariant.turns T around means old h))

pub returns-in-Ok-Some-clause-turns : goal.returns-in-Ok-Some-clause-turns
returns-in-Ok-Some-clause-turns g c = λ T around means old h.
    subst (λ (r : Result (Option End) Fault). TurnsTo (ahead_of T c.args.program.now around) means old c.turn.new.machine (streams (g.I.Source.stream c.turn.new.input) (g.O.Sink.stream c.turn.new.out)) c.turn.new.tally r) (c.in-Ok-Some.is ∙ ap Ok c.in-Ok-Some.field-0-is)
    (c.turn.ensures.turns T around means old (c.steps.invariant.turns T around means old h))

pub returns-then-machine-ticks-clause-turns : goal.returns-then-machine-ticks-clause-turns
returns-then-machine-ticks-clause-turns g c = λ T around means old h.
    subst (λ (r : Result (Option End) Fault). TurnsTo (ahead_of T c.args.program.now around) means old c.turn.new.machine (streams (g.I.Source.stream c.turn.new.input) (g.O.Sink.stream c.turn.new.out)) c.turn.new.tally r) (c.in-Ok-None.is ∙ ap Ok c.in-Ok-None.field-0-is)
    (c.turn.ensures.turns T around means old (c.steps.invariant.turns T around means old h))

pub steps-preserved : goal.steps-preserved
steps-preserved g c =
    let near = subst (λ (r : Result (Option End) Fault). Nears c.args.program.now c.steps.machine c.turn.new.machine r) (c.in-Ok-None.is ∙ ap Ok c.in-Ok-None.field-0-is) c.turn.ensures.nearer in
    record {
      turns = λ T around means old h.
          subst (λ (r : Result (Option End) Fault). TurnsTo (ahead_of T c.args.program.now around) means old c.turn.new.machine (streams (g.I.Source.stream c.turn.new.input) (g.O.Sink.stream c.turn.new.out)) c.turn.new.tally r) (c.in-Ok-None.is ∙ ap Ok c.in-Ok-None.field-0-is)
          (c.turn.ensures.turns T around means old (c.steps.invariant.turns T around means old h));
      ticks = omega (arith, near.ticks, c.steps.invariant.ticks);
    }

pub steps-smaller : goal.steps-smaller
steps-smaller g c =
    let near = subst (λ (r : Result (Option End) Fault). Nears c.args.program.now c.steps.machine c.turn.new.machine r) (c.in-Ok-None.is ∙ ap Ok c.in-Ok-None.field-0-is) c.turn.ensures.nearer in
    near.steps (omega (arith, near.ticks, c.steps.invariant.ticks))
