use Rattle.std.proofs.Common.{◌≡◌, ◌∙◌, ◌≤◌, ◌-◌, ◌+◌, ℕ, List, [], ◌∷◌, ◌++◌, length, map, take, option_map, Option, Some, None, Result, Ok, Err, pos, ℤ, rules, arith, ap, sym, refl, subst}
use Rattle.cc_whole.specs.Plain.{body_of, function_of}
use Rattle.cc_whole_step.proofs.CallLaws.{main-opens}
use Rattle.cc_whole_step.proofs.Resume.{on-from, with_marks}
use Rattle.cc_whole_step.specs.Running.{entering, opening}
use Rattle.cc_whole_step.proofs.moment.Moment.begin_main.Goals as goal

pub returns : goal.returns
returns c =
    on-from (entering (function_of c.args.f.now) []) (opening (body_of c.args.f.now.body)) c.args.self.now (with_marks c.push.new.self c.args.self.now) c.open.new.self
    (λ n o lt. main-opens c.args.self.now c.push.new.self (function_of c.args.f.now) c.as_slice.result c.in_ok-next.next c.as_slice.ensures (c.in_ok-next.ensures ∙ c.requires)
    c.in_ok-push.ensures.items n o) (let h : c.args.self.now.ticks ≤ c.args.self.now.ticks = omega arith in h) c.in_ok-open.ensures
