use Rattle.std.proofs.Common.{◌∙◌, Result, Ok, Err, ap, sym, refl, subst}
use Rattle.cf_base.specs.Event.{Undefined}
use Rattle.cc_whole_memory.specs.Store.{act_number}
use Rattle.cc_whole_step.specs.declared.moment.Moment.{Moment}
use Rattle.cc_whole_step.specs.declared.moment.Step.{Step}
use Rattle.cc_whole_step.specs.declared.moment.Step.TheVariants as step
use Rattle.cc_whole_step.specs.declared.stop.Stop.{Stop}
use Rattle.cc_whole_step.specs.Running.{total}
use Rattle.cc_whole_step.specs.Comes.{Comes}
use Rattle.cc_whole_run.specs.declared.types.End.{End}
use Rattle.cf_streams.specs.Streams.{streams}
use Rattle.cc_whole_run.specs.Run.{LeavesAt}
use Rattle.cc_whole_run.specs.Going.{Going}
use Rattle.cc_whole_run.proofs.GoingLaws.{going-broken, going-whole, going-ends, going-on, going-enters, going-puts, going-not_put, going-answers, going-not_taken}
use Rattle.cc_whole_run.proofs.turn.turn.Goals as goal

pub returns-in-Err-Memory : goal.returns-in-Err-Memory
returns-in-Err-Memory g c means n old h = going-broken means n c.args.moment.now old (streams (g.I.Source.stream c.args.input.now) (g.O.Sink.stream c.args.out.now)) c.args.tally.now h

pub returns-in-Err-Act : goal.returns-in-Err-Act
returns-in-Err-Act g c means n old h =
    going-whole means n c.args.moment.now old (streams (g.I.Source.stream c.args.input.now) (g.O.Sink.stream c.args.out.now)) c.args.tally.now (Undefined (act_number c.in-Err-Act.act)) h
    (subst (λ (r : Result Step Stop). Comes total r c.args.moment.now c.step.new.self) (c.in-Err-Act.is ∙ ap Err c.in-Err-Act.field-0-is) c.step.ensures)

pub returns-in-Ok-On : goal.returns-in-Ok-On
returns-in-Ok-On g c means n old h =
    going-on means n c.args.moment.now c.step.new.self old (streams (g.I.Source.stream c.args.input.now) (g.O.Sink.stream c.args.out.now)) c.args.tally.now h
    (subst (λ (r : Result Step Stop). Comes total r c.args.moment.now c.step.new.self) (c.in-Ok-On.is ∙ ap Ok c.in-Ok-On.field-0-is) c.step.ensures)

pub returns-in-Ok-Ends : goal.returns-in-Ok-Ends
returns-in-Ok-Ends g c means n old h =
    subst (λ (e : End). LeavesAt means old (streams (g.I.Source.stream c.args.input.now) (g.O.Sink.stream c.args.out.now)) c.args.tally.now.entered e) (sym c.end_of.ensures)
    (going-ends means n c.args.moment.now old (streams (g.I.Source.stream c.args.input.now) (g.O.Sink.stream c.args.out.now)) c.args.tally.now c.in-Ok-Ends.end h
    (subst (λ (r : Result Step Stop). Comes total r c.args.moment.now c.step.new.self) (c.in-Ok-Ends.is ∙ ap Ok c.in-Ok-Ends.field-0-is) c.step.ensures))

pub returns-in-Ok-Shows-Enter : goal.returns-in-Ok-Shows-Enter
returns-in-Ok-Shows-Enter g c means n old h =
    going-enters means n c.args.moment.now c.step.new.self old (streams (g.I.Source.stream c.args.input.now) (g.O.Sink.stream c.args.out.now)) c.args.tally.now (record c.args.tally.now { entered = c.saturating_add-tally.result }) c.in-Ok-Shows-Enter.field-0-0-0.now h
    (subst (λ (r : Result Step Stop). Comes total r c.args.moment.now c.step.new.self) (c.in-Ok-Shows-Enter.is ∙ ap Ok (c.in-Ok-Shows-Enter.field-0-is ∙ ap step.Shows c.in-Ok-Shows-Enter.field-0-0-is)) c.step.ensures)
    c.saturating_add-tally.ensures refl

pub returns-in-Err : goal.returns-in-Err
returns-in-Err g c means n old h =
    going-not_put means n c.args.moment.now c.step.new.self old (streams (g.I.Source.stream c.args.input.now) (g.O.Sink.stream c.args.out.now)) (g.O.Sink.stream c.put.new.self) c.args.tally.now c.in-Ok-Shows-Out.byte h
    (subst (λ (r : Result Step Stop). Comes total r c.args.moment.now c.step.new.self) (c.in-Ok-Shows-Out.is ∙ ap Ok (c.in-Ok-Shows-Out.field-0-is ∙ ap step.Shows c.in-Ok-Shows-Out.field-0-0-is)) c.step.ensures)
    c.in-Err.ensures.told c.in-Err.ensures.faults c.in-Err.ensures.bytes

pub returns-in-Ok : goal.returns-in-Ok
returns-in-Ok g c means n old h =
    going-puts means n c.args.moment.now c.step.new.self old (streams (g.I.Source.stream c.args.input.now) (g.O.Sink.stream c.args.out.now)) (g.O.Sink.stream c.put.new.self) c.args.tally.now c.in-Ok-Shows-Out.byte h
    (subst (λ (r : Result Step Stop). Comes total r c.args.moment.now c.step.new.self) (c.in-Ok-Shows-Out.is ∙ ap Ok (c.in-Ok-Shows-Out.field-0-is ∙ ap step.Shows c.in-Ok-Shows-Out.field-0-0-is)) c.step.ensures)
    c.in-Ok.ensures.told c.in-Ok.ensures.bytes c.in-Ok.ensures.faults

pub returns-in-Err-take : goal.returns-in-Err-take
returns-in-Err-take g c means n old h =
    going-not_taken means n c.args.moment.now c.step.new.self old (streams (g.I.Source.stream c.args.input.now) (g.O.Sink.stream c.args.out.now)) (g.I.Source.stream c.take.new.input) c.args.tally.now (record c.args.tally.now { at_end = c.take.new.at_end }) h
    (subst (λ (r : Result Step Stop). Comes total r c.args.moment.now c.step.new.self) (c.in-Ok-Takes.is ∙ ap Ok c.in-Ok-Takes.field-0-is) c.step.ensures)
    c.in-Err-take.ensures refl

pub returns-in-Ok-take : goal.returns-in-Ok-take
returns-in-Ok-take g c means n old h =
    subst (λ (m : Moment). Going means n m old (streams (g.I.Source.stream c.take.new.input) (g.O.Sink.stream c.args.out.now)) (record c.args.tally.now { at_end = c.take.new.at_end })) (sym c.answer.ensures)
    (going-answers means n c.args.moment.now c.step.new.self old (streams (g.I.Source.stream c.args.input.now) (g.O.Sink.stream c.args.out.now)) (g.I.Source.stream c.take.new.input) c.args.tally.now (record c.args.tally.now { at_end = c.take.new.at_end }) c.in-Ok-take.byte h
    (subst (λ (r : Result Step Stop). Comes total r c.args.moment.now c.step.new.self) (c.in-Ok-Takes.is ∙ ap Ok c.in-Ok-Takes.field-0-is) c.step.ensures)
    c.in-Ok-take.ensures refl)
