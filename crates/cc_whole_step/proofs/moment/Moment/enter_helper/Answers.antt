use Rattle.std.proofs.Common.{◌≡◌, ◌∙◌, ◌≤◌, ◌-◌, ◌+◌, ℕ, List, [], ◌∷◌, ◌++◌, length, map, take, option_map, Option, Some, None, Result, Ok, Err, pos, ℤ, rules, arith, ap, sym, refl, subst}
use Rattle.cc_whole.specs.Plain.{function_of}
use Rattle.cc_whole_step.proofs.CallLaws.{helper-inside}
use Rattle.cc_whole_step.proofs.moment.Moment.enter_helper.Goals as goal

pub returns-then-self : goal.returns-then-self
returns-then-self c = helper-inside c.args.self.now (function_of c.args.f.now) c.args.found.now c.if-self.true
