use Rattle.std.proofs.Common.{◌∙◌, ℕ, suc, List, Ok, ap, sym, subst}
use Rattle.cf_base.specs.Event.{Undefined}
use Rattle.cc_whole_step.specs.Running.{functions_in}
use Rattle.cf_streams.specs.Streams.{streams}
use Rattle.cc_whole_run.specs.Run.{meant, LeavesAt}
use Rattle.std.proofs.lemmas.Result.{err_from_is_err_and}
use Rattle.cc_whole_run.specs.declared.types.Ran.{Ran}
use Rattle.cc_whole_run.proofs.GoingLaws.{broken-none, whole-none}
use Rattle.cc_whole.specs.Plain.{function_of}
use Rattle.cc_whole_mean.specs.Callee.{callee_named}
use Rattle.cc_whole_callee.specs.View.{answer_of}
use Rattle.cc_whole_run.proofs.Starting.{main-own, main-none, none-means}
use Rattle.cc_whole_run.proofs.run.run_program.Goals as goal

pub returns-in_err-moment-in-Ok-Own : goal.returns-in_err-moment-in-Ok-Own
returns-in_err-moment-in-Ok-Own g c =
    let p = err_from_is_err_and c.from_residual.result c.from_residual.ensures.1 in
    rw (p.1) (broken-none (meant c.args.program.now c.args.limits) (streams (g.I.Source.stream c.args.input.now) (g.O.Sink.stream c.args.out.now)))

pub returns-in_ok-moment-in-Ok-Own : goal.returns-in_ok-moment-in-Ok-Own
returns-in_ok-moment-in-Ok-Own g c =
    c.go.ensures (meant c.args.program.now c.args.limits) (suc c.args.limits.ticks)
    (c.in_ok-moment-in-Ok-Own.ensures.same (main-own (functions_in c.args.program.now) (function_of c.in-Ok-Own.main.now)
    (ap (λ (name : List ℕ). callee_named (functions_in c.args.program.now) name) (sym c.as_slice.ensures) ∙ sym c.callee_named.ensures ∙ ap answer_of (c.in-Ok-Own.is ∙ ap Ok c.in-Ok-Own.field-0-is))))
    c.in_ok-moment-in-Ok-Own.ensures.below

pub returns-in-Err : goal.returns-in-Err
returns-in-Err g c =
    subst (λ (r : Ran). LeavesAt (meant c.args.program.now c.args.limits) (streams (g.I.Source.stream c.args.input.now) (g.O.Sink.stream c.args.out.now)) (streams (g.I.Source.stream c.args.input.now) (g.O.Sink.stream c.args.out.now)) r.entered r.end) (sym c.without_main-in-Err.ensures)
    (whole-none (meant c.args.program.now c.args.limits) (streams (g.I.Source.stream c.args.input.now) (g.O.Sink.stream c.args.out.now)) (Undefined 9) (λ input. none-means c.args.program.now c.args.limits input (main-none (functions_in c.args.program.now) _
    (ap (λ (name : List ℕ). callee_named (functions_in c.args.program.now) name) (sym c.as_slice.ensures) ∙ sym c.callee_named.ensures ∙ ap answer_of c.in-Err.is))))
