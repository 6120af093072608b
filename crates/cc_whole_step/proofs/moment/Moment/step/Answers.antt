use Rattle.std.proofs.Common.{◌≡◌, ◌∙◌, ◌≤◌, ◌-◌, ◌+◌, ℕ, List, [], ◌∷◌, ◌++◌, length, map, take, option_map, Option, Some, None, Result, Ok, Err, pos, ℤ, rules, arith, ap, sym, refl, subst}
use Rattle.cc_whole_step.proofs.Resume.{comes-from}
use Rattle.cc_whole_step.specs.Running.{going, listing, run_doing, statements_of, switch_of, switching_on, total}
use Rattle.cc_whole_step.specs.declared.mark.Doing.{Doing}
use Rattle.cc_whole_step.proofs.moment.Moment.step.Goals as goal

pub returns-in-Run : goal.returns-in-Run
returns-in-Run c =
    comes-from total (listing (statements_of c.in-Run.all.now)) c.run_on.result c.args.self.now c.args.self.now c.run_on.new.self
    (λ n o lt. ap (λ (d : Doing). going n c.args.self.now o (λ g scope s w. run_doing g c.args.self.now.level d scope s w)) c.in-Run.is) (let h : c.args.self.now.ticks ≤ c.args.self.now.ticks = omega arith in h) c.run_on.ensures

pub returns-in-Items : goal.returns-in-Items
returns-in-Items c =
    comes-from total (switching_on (switch_of c.in-Items.items.now)) c.pass_on.result c.args.self.now c.args.self.now c.pass_on.new.self
    (λ n o lt. ap (λ (d : Doing). going n c.args.self.now o (λ g scope s w. run_doing g c.args.self.now.level d scope s w)) c.in-Items.is) (let h : c.args.self.now.ticks ≤ c.args.self.now.ticks = omega arith in h) c.pass_on.ensures
