use Rattle.std.proofs.Common.{◌≡◌, ◌∙◌, ◌≤◌, ◌-◌, ◌+◌, ℕ, List, [], ◌∷◌, ◌++◌, length, map, take, option_map, Option, Some, None, Result, Ok, Err, pos, ℤ, rules, arith, ap, sym, refl, subst}
use Rattle.cc_whole.specs.Plain.{function_of}
use Rattle.cc_whole_step.proofs.CallLaws.{function-depth, function-enters, function-ticks}
use Rattle.cc_whole_step.specs.Comes.{StepsOn}
use Rattle.cc_whole_step.specs.Running.{spending}
use Rattle.cf_base.specs.Event.{Enter}
use Rattle.cc_whole_step.proofs.moment.Moment.enter_function.Goals as goal

pub returns-then-self-eq0 : goal.returns-then-self-eq0
returns-then-self-eq0 c = function-ticks c.args.self.now (function_of c.args.f.now) c.args.found.now c.if-self-eq0.true

pub returns-then-self-eq0-2 : goal.returns-then-self-eq0-2
returns-then-self-eq0-2 c = function-depth c.args.self.now (function_of c.args.f.now) c.args.found.now c.if-self-eq0.false c.if-self-eq0-2.true

pub returns : goal.returns
returns c =
    subst (λ (name : List ℕ). StepsOn (spending (function_of c.args.f.now) c.args.found.now) (Some (Enter name)) c.args.self.now c.open_function.new.self) (sym c.as_slice.ensures)
    (function-enters c.args.self.now c.open_function.new.self (function_of c.args.f.now) c.args.found.now c.if-self-eq0.false c.if-self-eq0-2.false c.in_ok-open_function.ensures)
