use Rattle.std.proofs.Common.{◌≡◌, ◌∙◌, ◌≤◌, ◌-◌, ◌+◌, ℕ, List, [], ◌∷◌, ◌++◌, length, map, take, option_map, Option, Some, None, Result, Ok, Err, pos, ℤ, rules, arith, ap, sym, refl, subst}
use Rattle.cc_whole.specs.Plain.{body_of, loop}
use Rattle.cc_whole_step.proofs.Resume.{comes-from}
use Rattle.cc_whole_step.proofs.StepLaws.{turn-falls}
use Rattle.cc_whole_step.specs.Running.{beginning, popped}
use Rattle.cc_whole_step.specs.declared.mark.Mark.TheVariants as mark
use Rattle.cc_whole_step.specs.declared.mark.Flow.TheVariants as left
use Rattle.cc_whole_step.proofs.moment.Moment.turn_again.Goals as goal

pub returns : goal.returns
returns c =
    comes-from (popped (mark.Turn c.args.level c.args.body) left.Falls) (beginning (loop (body_of c.args.body.now))) c.repeat.result c.args.self.now (record c.args.self.now { level = c.args.level }) c.repeat.new.self
    (λ n o lt. turn-falls c.args.self.now c.args.level c.args.body n o lt) (let h : c.args.self.now.ticks ≤ c.args.self.now.ticks = omega arith in h) c.repeat.ensures
