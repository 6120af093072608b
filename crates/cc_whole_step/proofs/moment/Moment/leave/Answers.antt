use Rattle.std.proofs.Common.{◌≡◌, ◌∙◌, ◌≤◌, ◌-◌, ◌+◌, ℕ, List, [], ◌∷◌, ◌++◌, length, map, take, option_map, Option, Some, None, Result, Ok, Err, pos, ℤ, rules, arith, ap, sym, refl, subst}
use Rattle.cc_whole_memory.specs.Store.{memory_of}
use Rattle.cc_whole_mean.specs.Flow.{ended_from}
use Rattle.cc_whole_step.proofs.Resume.{comes-from}
use Rattle.cc_whole_step.proofs.StepLaws.{locals-end, parameters-end}
use Rattle.cc_whole_step.specs.Comes.{Comes}
use Rattle.cc_whole_step.specs.Running.{leaving, popped}
use Rattle.cc_whole_step.specs.declared.mark.Mark.{Mark}
use Rattle.cc_whole_step.proofs.moment.Moment.leave.Goals as goal

pub returns-in-Rest : goal.returns-in-Rest
returns-in-Rest c =
    subst (λ (m : Mark). Comes (popped m c.args.flow) (Ok c.follow.result) c.args.self.now c.follow.new.self) (sym c.in-Rest.is) c.follow.ensures

pub returns-in-Items : goal.returns-in-Items
returns-in-Items c =
    subst (λ (m : Mark). Comes (popped m c.args.flow) (Ok c.follow-in-Items.result) c.args.self.now c.follow-in-Items.new.self) (sym c.in-Items.is) c.follow-in-Items.ensures

pub returns-in-Locals : goal.returns-in-Locals
returns-in-Locals c =
    comes-from (popped c.args.mark c.args.flow) (leaving c.args.flow) (Ok c.ends-in-Locals.result) c.args.self.now (record c.args.self.now { store = c.end_blocks.new.store }) c.ends-in-Locals.new.self
    (λ n o lt. ap (λ (m : Mark). popped m c.args.flow n c.args.self.now o) c.in-Locals.is
    ∙ locals-end c.args.self.now c.end_blocks.new.store c.in-Locals.locals c.in-Locals.first c.args.flow
    c.end_blocks.ensures n o) (let h : c.args.self.now.ticks ≤ c.args.self.now.ticks = omega arith in h) c.ends-in-Locals.ensures

pub returns-in-Parameters : goal.returns-in-Parameters
returns-in-Parameters c =
    comes-from (popped c.args.mark c.args.flow) (leaving c.back.result) (Ok c.ends-in-Parameters.result) c.args.self.now (record c.args.self.now { store = c.end_blocks-in-Parameters.new.store }) c.ends-in-Parameters.new.self
    (λ n o lt. ap (λ (m : Mark). popped m c.args.flow n c.args.self.now o) c.in-Parameters.is
    ∙ parameters-end c.args.self.now c.end_blocks-in-Parameters.new.store c.in-Parameters.field-0 c.in-Parameters.first c.in-Parameters.count c.args.flow c.back.result
    c.back.ensures c.end_blocks-in-Parameters.ensures n o) (let h : c.args.self.now.ticks ≤ c.args.self.now.ticks = omega arith in h) c.ends-in-Parameters.ensures
