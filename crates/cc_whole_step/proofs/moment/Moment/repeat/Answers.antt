use Rattle.std.proofs.Common.{◌≡◌, ◌∙◌, ◌≤◌, ◌-◌, ◌+◌, ℕ, List, [], ◌∷◌, ◌++◌, length, map, take, option_map, Option, Some, None, Result, Ok, Err, pos, ℤ, rules, arith, ap, sym, refl, subst}
use Rattle.cc_whole.specs.Plain.{body_of, loop}
use Rattle.cc_whole_step.proofs.Resume.{on-from, with_marks}
use Rattle.cc_whole_step.proofs.StepLaws.{repeat-ends, repeat-pushed}
use Rattle.cc_whole_step.specs.Running.{beginning, opening}
use Rattle.cc_whole_step.proofs.moment.Moment.repeat.Goals as goal

pub returns-then-self-eq0 : goal.returns-then-self-eq0
returns-then-self-eq0 c = repeat-ends c.args.self.now (body_of c.args.body.now) c.if-self-eq0.true

pub returns : goal.returns
returns c =
    on-from (beginning (loop (body_of c.args.body.now))) (opening (body_of c.args.body.now)) c.args.self.now (record (with_marks c.push.new.self c.args.self.now) { ticks = c.args.self.now.ticks - 1 }) c.open.new.self
    (λ n o lt. repeat-pushed c.args.self.now c.push.new.self c.args.body c.if-self-eq0.false c.in_ok-push.ensures.items n o)
    (let h : c.args.self.now.ticks - 1 ≤ c.args.self.now.ticks = omega arith in h) c.in_ok-open.ensures
