use Rattle.std.proofs.Common.{◌≡◌, ◌∙◌, ◌≤◌, ◌-◌, ◌+◌, ℕ, List, [], ◌∷◌, ◌++◌, length, map, take, option_map, Option, Some, None, Result, Ok, Err, pos, ℤ, rules, arith, ap, sym, refl, subst}
use Rattle.cc_whole.specs.Plain.{statement_of}
use Rattle.cc_whole_step.proofs.Resume.{comes-from, with_marks}
use Rattle.cc_whole_step.proofs.StepLaws.{rest-pushed}
use Rattle.cc_whole_step.specs.Running.{beginning, listing, statements_of}
use Rattle.cc_whole_step.proofs.moment.Moment.run_on.Goals as goal

pub returns-in_ok-push-in-Some : goal.returns-in_ok-push-in-Some
returns-in_ok-push-in-Some c =
    comes-from (listing (statements_of c.args.all.now)) (beginning (statement_of c.in-Some.first.now)) c.begin.result c.args.self.now (with_marks c.push.new.self c.args.self.now) c.begin.new.self
    (λ n o lt. rest-pushed c.args.self.now c.push.new.self c.args.all.now c.in-Some.first.now c.in-Some.rest c.in-Some.ensures.cases.0 c.in_ok-push-in-Some.ensures.items n o) (let h : c.args.self.now.ticks ≤ c.args.self.now.ticks = omega arith in h) c.begin.ensures
