use Rattle.std.proofs.Common.{◌≡◌, ◌∙◌, ◌≤◌, ◌-◌, ◌+◌, ℕ, List, [], ◌∷◌, ◌++◌, length, map, take, option_map, Option, Some, None, Result, Ok, Err, pos, ℤ, rules, arith, ap, sym, refl, subst}
use Rattle.cc_whole_step.proofs.ExitLaws.{leaves-all}
use Rattle.cc_whole_step.proofs.Resume.{comes-from, with_marks}
use Rattle.cc_whole_step.proofs.StepLaws.{pops}
use Rattle.cc_whole_step.specs.Running.{ending_all, leaving, popped}
use Rattle.cc_whole_step.proofs.moment.Moment.leave_off.Goals as goal

pub returns-in-None : goal.returns-in-None
returns-in-None c =
    let none : c.args.self.now.frames.marks.items ≡ [] = search rules in
    comes-from (leaving c.args.flow) (ending_all c.args.flow) c.end.result c.args.self.now (with_marks c.pop.new.self c.args.self.now) c.end.new.self
    (λ n o lt. leaves-all c.args.self.now c.args.flow none n o) (let h : c.args.self.now.ticks ≤ c.args.self.now.ticks = omega arith in h) c.end.ensures

pub returns-in-Some : goal.returns-in-Some
returns-in-Some c =
    comes-from (leaving c.args.flow) (popped c.in-Some.mark c.args.flow) c.leave.result c.args.self.now (with_marks c.pop.new.self c.args.self.now) c.leave.new.self
    (λ n o lt. pops c.args.self.now c.pop.new.self c.in-Some.mark c.args.flow c.in-Some.ensures.items n o) (let h : c.args.self.now.ticks ≤ c.args.self.now.ticks = omega arith in h) c.leave.ensures
