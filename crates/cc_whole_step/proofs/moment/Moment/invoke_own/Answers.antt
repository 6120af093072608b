use Rattle.std.proofs.Common.{◌≡◌, ◌∙◌, ◌≤◌, ◌-◌, ◌+◌, ℕ, List, [], ◌∷◌, ◌++◌, length, map, take, option_map, Option, Some, None, Result, Ok, Err, pos, ℤ, rules, arith, ap, sym, refl, subst}
use Rattle.cc_whole.specs.Known.{is_helper, is_main}
use Rattle.cc_whole.specs.Plain.{function_of}
use Rattle.cc_whole_mean.specs.Callee.{own}
use Rattle.cc_whole_step.proofs.CallLaws.{own-arity, own-function, own-helper, own-main}
use Rattle.cc_whole_step.proofs.Resume.{comes-from}
use Rattle.cc_whole_step.specs.Running.{calling, helping, spending}
use Rattle.cc_whole_step.proofs.moment.Moment.invoke_own.Goals as goal

pub returns-then-is_main : goal.returns-then-is_main
returns-then-is_main c =
    own-main c.args.self.now (function_of c.args.f.now) c.args.found.now (ap is_main (sym c.as_slice.ensures) ∙ sym c.is_main.ensures ∙ c.if-is_main.true)

pub returns-then-len-found : goal.returns-then-len-found
returns-then-len-found c =
    own-arity c.args.self.now (function_of c.args.f.now) c.args.found.now (ap is_main (sym c.as_slice.ensures) ∙ sym c.is_main.ensures ∙ c.if-is_main.false) (λ e. c.if-len-found.true (c.len.ensures ∙ e))

pub returns-then-is_helper : goal.returns-then-is_helper
returns-then-is_helper c =
    comes-from (calling (own (function_of c.args.f.now)) c.args.found.now) (helping (function_of c.args.f.now) c.args.found.now) c.enter_helper.result c.args.self.now c.args.self.now c.enter_helper.new.self
    (λ n o lt. own-helper c.args.self.now (function_of c.args.f.now) c.args.found.now (ap is_main (sym c.as_slice.ensures) ∙ sym c.is_main.ensures ∙ c.if-is_main.false) (sym c.len.ensures ∙ c.if-len-found.false)
    (ap is_helper (sym c.as_slice-2.ensures) ∙ sym c.is_helper.ensures ∙ c.if-is_helper.true) n o) (let h : c.args.self.now.ticks ≤ c.args.self.now.ticks = omega arith in h) c.enter_helper.ensures

pub returns : goal.returns
returns c =
    comes-from (calling (own (function_of c.args.f.now)) c.args.found.now) (spending (function_of c.args.f.now) c.args.found.now) c.enter_function.result c.args.self.now c.args.self.now c.enter_function.new.self
    (λ n o lt. own-function c.args.self.now (function_of c.args.f.now) c.args.found.now (ap is_main (sym c.as_slice.ensures) ∙ sym c.is_main.ensures ∙ c.if-is_main.false) (sym c.len.ensures ∙ c.if-len-found.false)
    (ap is_helper (sym c.as_slice-2.ensures) ∙ sym c.is_helper.ensures ∙ c.if-is_helper.false) n o) (let h : c.args.self.now.ticks ≤ c.args.self.now.ticks = omega arith in h) c.enter_function.ensures
