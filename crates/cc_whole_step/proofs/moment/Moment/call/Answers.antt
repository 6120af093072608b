use Rattle.std.proofs.Common.{◌≡◌, ◌∙◌, ◌≤◌, ◌-◌, ◌+◌, ℕ, List, [], ◌∷◌, ◌++◌, length, map, take, option_map, Option, Some, None, Result, Ok, Err, pos, ℤ, rules, arith, ap, sym, refl, subst}
use Rattle.cc_whole.specs.Plain.{call, expression_of, place_of}
use Rattle.cc_whole_callee.specs.View.{callee_of}
use Rattle.cc_whole_step.proofs.CallLaws.{call-acts_callee, call-acts_chosen, call-acts_target, call-goes, call-stops}
use Rattle.cc_whole_step.proofs.Resume.{comes-from, with_marks}
use Rattle.cc_whole_step.specs.Chosen.{chosen_of}
use Rattle.cc_whole_step.specs.Running.{beginning, calling}
use Rattle.std.proofs.lemmas.Result.{err_from_is_err_and}
use Rattle.cc_whole.specs.Plain.{callee_of as called_of}
use Rattle.cc_whole_step.proofs.moment.Moment.call.Goals as goal

pub returns-in_err-at : goal.returns-in_err-at
returns-in_err-at c =
    let p = err_from_is_err_and c.from_residual.result c.from_residual.ensures.1 in
    rw (p.1, p.2) (call-acts_target c.args.self.now (option_map place_of c.args.place.now) (called_of c.args.f.now) (map expression_of c.args.arguments.now) _ (sym c.in_err-at.ensures))

pub returns-in_err-chosen : goal.returns-in_err-chosen
returns-in_err-chosen c =
    let p = err_from_is_err_and c.from_residual-in_err-chosen.result c.from_residual-in_err-chosen.ensures.1 in
    rw (p.1, p.2) (call-acts_chosen c.args.self.now (option_map place_of c.args.place.now) (called_of c.args.f.now) (map expression_of c.args.arguments.now) c.in_ok-at.at _ (sym c.in_ok-at.ensures) (sym c.in_err-chosen.ensures))

pub returns-in_err-found : goal.returns-in_err-found
returns-in_err-found c =
    let p = err_from_is_err_and c.from_residual-in_err-found.result c.from_residual-in_err-found.ensures.1 in
    rw (p.1, p.2) (call-stops c.args.self.now c.args.self.now (option_map place_of c.args.place.now) (called_of c.args.f.now) (map expression_of c.args.arguments.now) c.in_ok-at.at (chosen_of c.in_ok-chosen.chosen) _ (sym c.in_ok-at.ensures) (sym c.in_ok-chosen.ensures) c.in_err-found.ensures.err)

pub returns-in_err-callee : goal.returns-in_err-callee
returns-in_err-callee c =
    let p = err_from_is_err_and c.from_residual-in_err-callee.result c.from_residual-in_err-callee.ensures.1 in
    rw (p.1, p.2) (call-acts_callee c.args.self.now (option_map place_of c.args.place.now) (called_of c.args.f.now) (map expression_of c.args.arguments.now) c.in_ok-at.at (chosen_of c.in_ok-chosen.chosen) c.in_ok-found.found.items _ (sym c.in_ok-at.ensures) (sym c.in_ok-chosen.ensures)
    c.in_ok-found.ensures.ok (sym c.in_err-callee.ensures))

pub returns : goal.returns
returns c =
    comes-from (beginning (call (option_map place_of c.args.place.now) (called_of c.args.f.now) (map expression_of c.args.arguments.now))) (calling (callee_of c.in_ok-callee.callee) c.deref.result.now) c.invoke.result c.args.self.now (with_marks c.push.new.self c.args.self.now) c.invoke.new.self
    (λ n o lt. call-goes c.args.self.now c.push.new.self (option_map place_of c.args.place.now) (called_of c.args.f.now) (map expression_of c.args.arguments.now) c.in_ok-at.at (chosen_of c.in_ok-chosen.chosen) c.deref.result.now (callee_of c.in_ok-callee.callee)
    (sym c.in_ok-at.ensures) (sym c.in_ok-chosen.ensures) (c.in_ok-found.ensures.ok ∙ ap Ok (sym c.deref.ensures.value)) (sym c.in_ok-callee.ensures) c.in_ok-push.ensures.items n o)
    (let h : c.args.self.now.ticks ≤ c.args.self.now.ticks = omega arith in h) c.invoke.ensures
