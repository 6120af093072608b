use Rattle.std.proofs.Common.{◌≡◌, ◌∙◌, ◌≤◌, ◌-◌, ◌+◌, ℕ, List, [], ◌∷◌, ◌++◌, length, map, take, option_map, Option, Some, None, Result, Ok, Err, pos, ℤ, rules, arith, ap, sym, refl, subst}
use Rattle.cc_whole.specs.Plain.{statement_of}
use Rattle.cc_whole_step.proofs.Resume.{comes-from, with_marks}
use Rattle.cc_whole_step.proofs.StepLaws.{items-pushed, of-default, of-inner, of-label}
use Rattle.cc_whole_step.specs.Running.{beginning, switch_of, switching_on}
use Rattle.cc_whole_step.proofs.moment.Moment.pass_on.Goals as goal

pub returns-in-Case : goal.returns-in-Case
returns-in-Case c =
    comes-from (switching_on (switch_of c.args.items.now)) (switching_on (switch_of c.in-Some.rest.now)) (Ok c.passes.result) c.args.self.now c.args.self.now c.passes.new.self
    (λ n o lt. ap (λ i. switching_on i n c.args.self.now o) (of-label c.args.items.now c.in-Some.rest.now c.in-Some.first.now c.in-Case.field-0 c.in-Some.ensures.cases.0 c.in-Case.is)) (let h : c.args.self.now.ticks ≤ c.args.self.now.ticks = omega arith in h)
    c.passes.ensures

pub returns-in-Default : goal.returns-in-Default
returns-in-Default c =
    comes-from (switching_on (switch_of c.args.items.now)) (switching_on (switch_of c.in-Some.rest.now)) (Ok c.passes-in-Default.result) c.args.self.now c.args.self.now c.passes-in-Default.new.self
    (λ n o lt. ap (λ i. switching_on i n c.args.self.now o) (of-default c.args.items.now c.in-Some.rest.now c.in-Some.first.now c.in-Some.ensures.cases.0 c.in-Default.is)) (let h : c.args.self.now.ticks ≤ c.args.self.now.ticks = omega arith in h)
    c.passes-in-Default.ensures

pub returns-in_ok-push-in-Statement : goal.returns-in_ok-push-in-Statement
returns-in_ok-push-in-Statement c =
    comes-from (switching_on (switch_of c.args.items.now)) (beginning (statement_of c.in-Statement.st)) c.begin.result c.args.self.now (with_marks c.push.new.self c.args.self.now) c.begin.new.self
    (λ n o lt. ap (λ i. switching_on i n c.args.self.now o) (of-inner c.args.items.now c.in-Some.rest.now c.in-Some.first.now c.in-Statement.st c.in-Some.ensures.cases.0 c.in-Statement.is)
    ∙ items-pushed c.args.self.now c.push.new.self (statement_of c.in-Statement.st) c.in-Some.rest c.in_ok-push-in-Statement.ensures.items n o) (let h : c.args.self.now.ticks ≤ c.args.self.now.ticks = omega arith in h) c.begin.ensures
