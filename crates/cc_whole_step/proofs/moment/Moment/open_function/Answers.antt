use Rattle.std.proofs.Common.{◌≡◌, ◌∙◌, ◌≤◌, ◌-◌, ◌+◌, ℕ, List, [], ◌∷◌, ◌++◌, length, map, take, option_map, Option, Some, None, Result, Ok, Err, pos, ℤ, rules, arith, ap, sym, refl, subst}
use Rattle.cc_whole.specs.Plain.{body_of, function_of}
use Rattle.cc_whole_step.proofs.CallLaws.{function-opens}
use Rattle.cc_whole_step.proofs.Resume.{on-from, with_marks}
use Rattle.cc_whole_step.specs.Running.{entering, opening}
use Rattle.cc_whole_step.specs.declared.mark.Mark.TheVariants as mark
use Rattle.cc_whole_step.proofs.moment.Moment.open_function.Goals as goal

pub returns : goal.returns
returns c =
    on-from (entering (function_of c.args.f.now) c.args.found.now) (opening (body_of c.args.f.now.body)) c.args.self.now
    (record (with_marks c.push.new.self c.args.self.now) { store = c.born_arguments.new.store }) c.open.new.self
    (λ n o lt. function-opens c.args.self.now c.born_arguments.new.store c.push.new.self (function_of c.args.f.now) c.args.found.now c.as_slice.result c.in_ok-first-2.first
    c.as_slice.ensures c.requires c.in_ok-first.ensures.born (c.in_ok-first-2.ensures ∙ c.in_ok-first.ensures.first)
    c.in_ok-push.ensures.items n o)
    (let h : c.args.self.now.ticks ≤ c.args.self.now.ticks = omega arith in h) c.in_ok-open.ensures
