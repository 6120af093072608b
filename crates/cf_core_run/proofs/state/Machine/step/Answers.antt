use Rattle.cf_core_run.proofs.NearLaws.{kept-nearer, spent-nearer}
use Rattle.cf_core_run.specs.Nearer.{doing_left, marks_left, Nearer, steps_left}
use Rattle.std.proofs.Common.{◌∙◌, ap, sym, ◌+◌, subst, arith}
use Rattle.cf_core_run.specs.Going.{from_doing, total}
use Rattle.cf_core_run.proofs.Laws.{comes-by}
use Rattle.cf_core_run.proofs.state.Machine.step.Goals as goal

pub returns-in-Evaluate-clause-comes : goal.returns-in-Evaluate-clause-comes
returns-in-Evaluate-clause-comes c = comes-by c.args.program.now (λ T o. total T c.args.program.now c.args.self.now o) _ c.begin.result c.begin.new.self (λ T o. ap (λ d. from_doing T c.args.program.now d c.args.self.now o) (sym c.replace-doing.ensures.value ∙ c.in-Evaluate.is)) c.begin.ensures.comes

pub returns-in-Gives-clause-comes : goal.returns-in-Gives-clause-comes
returns-in-Gives-clause-comes c = comes-by c.args.program.now (λ T o. total T c.args.program.now c.args.self.now o) _ c.take.result c.take.new.self (λ T o. ap (λ d. from_doing T c.args.program.now d c.args.self.now o) (sym c.replace-doing.ensures.value ∙ c.in-Gives.is)) (c.take.ensures.comes c.args.program.now)

pub returns-in-Passes-clause-comes : goal.returns-in-Passes-clause-comes
returns-in-Passes-clause-comes c = comes-by c.args.program.now (λ T o. total T c.args.program.now c.args.self.now o) _ c.pass.result c.pass.new.self (λ T o. ap (λ d. from_doing T c.args.program.now d c.args.self.now o) (sym c.replace-doing.ensures.value ∙ c.in-Passes.is)) c.pass.ensures.comes

pub returns-in-Enter-clause-comes : goal.returns-in-Enter-clause-comes
returns-in-Enter-clause-comes c = comes-by c.args.program.now (λ T o. total T c.args.program.now c.args.self.now o) _ c.enter.result c.enter.new.self (λ T o. ap (λ d. from_doing T c.args.program.now d c.args.self.now o) (sym c.replace-doing.ensures.value ∙ c.in-Enter.is)) (c.enter.ensures.comes c.args.program.now)

pub returns-in-Body-clause-comes : goal.returns-in-Body-clause-comes
returns-in-Body-clause-comes c = comes-by c.args.program.now (λ T o. total T c.args.program.now c.args.self.now o) _ c.begin_body.result c.begin_body.new.self (λ T o. ap (λ d. from_doing T c.args.program.now d c.args.self.now o) (sym c.replace-doing.ensures.value ∙ c.in-Body.is)) (c.begin_body.ensures.comes c.args.program.now)

pub returns-in-Perform-clause-comes : goal.returns-in-Perform-clause-comes
returns-in-Perform-clause-comes c = comes-by c.args.program.now (λ T o. total T c.args.program.now c.args.self.now o) _ c.perform.result c.perform.new.self (λ T o. ap (λ d. from_doing T c.args.program.now d c.args.self.now o) (sym c.replace-doing.ensures.value ∙ c.in-Perform.is)) (c.perform.ensures.comes c.args.program.now)

pub returns-in-Follow-clause-comes : goal.returns-in-Follow-clause-comes
returns-in-Follow-clause-comes c = comes-by c.args.program.now (λ T o. total T c.args.program.now c.args.self.now o) _ c.follow.result c.follow.new.self (λ T o. ap (λ d. from_doing T c.args.program.now d c.args.self.now o) (sym c.replace-doing.ensures.value ∙ c.in-Follow.is)) (c.follow.ensures.comes c.args.program.now)

pub returns-in-Repeat-clause-comes : goal.returns-in-Repeat-clause-comes
returns-in-Repeat-clause-comes c = comes-by c.args.program.now (λ T o. total T c.args.program.now c.args.self.now o) _ c.repeat.result c.repeat.new.self (λ T o. ap (λ d. from_doing T c.args.program.now d c.args.self.now o) (sym c.replace-doing.ensures.value ∙ c.in-Repeat.is)) (c.repeat.ensures.comes c.args.program.now)

pub returns-in-Ends-clause-comes : goal.returns-in-Ends-clause-comes
returns-in-Ends-clause-comes c = comes-by c.args.program.now (λ T o. total T c.args.program.now c.args.self.now o) _ c.leave.result c.leave.new.self (λ T o. ap (λ d. from_doing T c.args.program.now d c.args.self.now o) (sym c.replace-doing.ensures.value ∙ c.in-Ends.is)) (c.leave.ensures.comes c.args.program.now)

pub returns-in-Case-clause-comes : goal.returns-in-Case-clause-comes
returns-in-Case-clause-comes c = comes-by c.args.program.now (λ T o. total T c.args.program.now c.args.self.now o) _ c.seek_case.result c.seek_case.new.self (λ T o. ap (λ d. from_doing T c.args.program.now d c.args.self.now o) (sym c.replace-doing.ensures.value ∙ c.in-Case.is)) (c.seek_case.ensures.comes c.args.program.now)

pub returns-in-Default-clause-comes : goal.returns-in-Default-clause-comes
returns-in-Default-clause-comes c = comes-by c.args.program.now (λ T o. total T c.args.program.now c.args.self.now o) _ c.seek_default.result c.seek_default.new.self (λ T o. ap (λ d. from_doing T c.args.program.now d c.args.self.now o) (sym c.replace-doing.ensures.value ∙ c.in-Default.is)) (c.seek_default.ensures.comes c.args.program.now)

pub returns-in-Starts-clause-comes : goal.returns-in-Starts-clause-comes
returns-in-Starts-clause-comes c = comes-by c.args.program.now (λ T o. total T c.args.program.now c.args.self.now o) _ c.start_program.result c.start_program.new.self (λ T o. ap (λ d. from_doing T c.args.program.now d c.args.self.now o) (sym c.replace-doing.ensures.value ∙ c.in-Starts.is)) c.start_program.ensures.comes

pub returns-in-Sets-clause-comes : goal.returns-in-Sets-clause-comes
returns-in-Sets-clause-comes c = comes-by c.args.program.now (λ T o. total T c.args.program.now c.args.self.now o) _ c.set_next.result c.set_next.new.self (λ T o. ap (λ d. from_doing T c.args.program.now d c.args.self.now o) (sym c.replace-doing.ensures.value ∙ c.in-Sets.is)) c.set_next.ensures.comes

pub returns-in-Lists-clause-comes : goal.returns-in-Lists-clause-comes
returns-in-Lists-clause-comes c = comes-by c.args.program.now (λ T o. total T c.args.program.now c.args.self.now o) _ c.next_element.result c.next_element.new.self (λ T o. ap (λ d. from_doing T c.args.program.now d c.args.self.now o) (sym c.replace-doing.ensures.value ∙ c.in-Lists.is)) (c.next_element.ensures.comes c.args.program.now)

pub returns-in-Starts-clause-nearer : goal.returns-in-Starts-clause-nearer
returns-in-Starts-clause-nearer c = λ h. kept-nearer c.args.program.now c.args.self.now.ticks (steps_left c.args.program.now c.args.self.now) c.start_program.result c.start_program.new.self c.start_program.ensures.ticks (omega (arith, c.start_program.ensures.within c.args.program.now, ap (doing_left c.args.program.now) (sym c.replace-doing.ensures.value ∙ c.in-Starts.is)))

pub returns-in-Sets-clause-nearer : goal.returns-in-Sets-clause-nearer
returns-in-Sets-clause-nearer c = λ h. kept-nearer c.args.program.now c.args.self.now.ticks (steps_left c.args.program.now c.args.self.now) c.set_next.result c.set_next.new.self c.set_next.ensures.ticks (omega (arith, c.set_next.ensures.within c.args.program.now, ap (doing_left c.args.program.now) (sym c.replace-doing.ensures.value ∙ c.in-Sets.is)))

pub returns-in-Evaluate-clause-nearer : goal.returns-in-Evaluate-clause-nearer
returns-in-Evaluate-clause-nearer c = λ h. kept-nearer c.args.program.now c.args.self.now.ticks (steps_left c.args.program.now c.args.self.now) c.begin.result c.begin.new.self c.begin.ensures.ticks (omega (arith, c.begin.ensures.within c.args.program.now, ap (doing_left c.args.program.now) (sym c.replace-doing.ensures.value ∙ c.in-Evaluate.is)))

pub returns-in-Gives-clause-nearer : goal.returns-in-Gives-clause-nearer
returns-in-Gives-clause-nearer c = λ h. kept-nearer c.args.program.now c.args.self.now.ticks (steps_left c.args.program.now c.args.self.now) c.take.result c.take.new.self c.take.ensures.ticks (omega (arith, c.take.ensures.within c.args.program.now, ap (doing_left c.args.program.now) (sym c.replace-doing.ensures.value ∙ c.in-Gives.is)))

pub returns-in-Lists-clause-nearer : goal.returns-in-Lists-clause-nearer
returns-in-Lists-clause-nearer c = λ h. kept-nearer c.args.program.now c.args.self.now.ticks (steps_left c.args.program.now c.args.self.now) c.next_element.result c.next_element.new.self c.next_element.ensures.ticks (omega (arith, c.next_element.ensures.within c.args.program.now, ap (doing_left c.args.program.now) (sym c.replace-doing.ensures.value ∙ c.in-Lists.is)))

pub returns-in-Passes-clause-nearer : goal.returns-in-Passes-clause-nearer
returns-in-Passes-clause-nearer c = λ h. kept-nearer c.args.program.now c.args.self.now.ticks (steps_left c.args.program.now c.args.self.now) c.pass.result c.pass.new.self c.pass.ensures.ticks (omega (arith, c.pass.ensures.within c.args.program.now, ap (doing_left c.args.program.now) (sym c.replace-doing.ensures.value ∙ c.in-Passes.is)))

pub returns-in-Body-clause-nearer : goal.returns-in-Body-clause-nearer
returns-in-Body-clause-nearer c = λ h. kept-nearer c.args.program.now c.args.self.now.ticks (steps_left c.args.program.now c.args.self.now) c.begin_body.result c.begin_body.new.self c.begin_body.ensures.ticks (omega (arith, c.begin_body.ensures.within c.args.program.now, ap (doing_left c.args.program.now) (sym c.replace-doing.ensures.value ∙ c.in-Body.is)))

pub returns-in-Follow-clause-nearer : goal.returns-in-Follow-clause-nearer
returns-in-Follow-clause-nearer c = λ h. kept-nearer c.args.program.now c.args.self.now.ticks (steps_left c.args.program.now c.args.self.now) c.follow.result c.follow.new.self c.follow.ensures.ticks (omega (arith, c.follow.ensures.within c.args.program.now, ap (doing_left c.args.program.now) (sym c.replace-doing.ensures.value ∙ c.in-Follow.is)))

pub returns-in-Case-clause-nearer : goal.returns-in-Case-clause-nearer
returns-in-Case-clause-nearer c = λ h. kept-nearer c.args.program.now c.args.self.now.ticks (steps_left c.args.program.now c.args.self.now) c.seek_case.result c.seek_case.new.self c.seek_case.ensures.ticks (omega (arith, c.seek_case.ensures.within c.args.program.now, ap (doing_left c.args.program.now) (sym c.replace-doing.ensures.value ∙ c.in-Case.is)))

pub returns-in-Default-clause-nearer : goal.returns-in-Default-clause-nearer
returns-in-Default-clause-nearer c = λ h. kept-nearer c.args.program.now c.args.self.now.ticks (steps_left c.args.program.now c.args.self.now) c.seek_default.result c.seek_default.new.self c.seek_default.ensures.ticks (omega (arith, c.seek_default.ensures.within c.args.program.now, ap (doing_left c.args.program.now) (sym c.replace-doing.ensures.value ∙ c.in-Default.is)))

pub returns-in-Ends-clause-nearer : goal.returns-in-Ends-clause-nearer
returns-in-Ends-clause-nearer c = λ h. kept-nearer c.args.program.now c.args.self.now.ticks (steps_left c.args.program.now c.args.self.now) c.leave.result c.leave.new.self c.leave.ensures.ticks (omega (arith, c.leave.ensures.within c.args.program.now, ap (doing_left c.args.program.now) (sym c.replace-doing.ensures.value ∙ c.in-Ends.is)))

pub returns-in-Perform-clause-nearer : goal.returns-in-Perform-clause-nearer
returns-in-Perform-clause-nearer c = λ h. subst (λ n. Nearer c.args.program.now c.args.self.now.ticks (n + marks_left c.args.self.now.stack.items) c.perform.result c.perform.new.self) (sym (ap (doing_left c.args.program.now) (sym c.replace-doing.ensures.value ∙ c.in-Perform.is))) (c.perform.ensures.nearer c.args.program.now)

pub returns-in-Enter-clause-nearer : goal.returns-in-Enter-clause-nearer
returns-in-Enter-clause-nearer c = λ h. spent-nearer c.args.program.now c.args.self.now.ticks (steps_left c.args.program.now c.args.self.now) c.enter.result c.enter.new.self c.enter.ensures.spends

pub returns-in-Repeat-clause-nearer : goal.returns-in-Repeat-clause-nearer
returns-in-Repeat-clause-nearer c = λ h. spent-nearer c.args.program.now c.args.self.now.ticks (steps_left c.args.program.now c.args.self.now) c.repeat.result c.repeat.new.self c.repeat.ensures.spends

pub returns-in-Asks-clause-nearer : goal.returns-in-Asks-clause-nearer
returns-in-Asks-clause-nearer c = λ h. absurd (h (sym c.replace-doing.ensures.value ∙ c.in-Asks.is))
