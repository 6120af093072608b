use Rattle.std.proofs.Common.{◌≡◌, ◌∙◌, ◌≤◌, ◌-◌, ◌+◌, ℕ, List, [], ◌∷◌, ◌++◌, length, map, take, option_map, Option, Some, None, Result, Ok, Err, pos, ℤ, rules, arith, FitsSigned, w64, to_z-of_z, false, ap, sym, refl, subst}
use Rattle.cc_whole_callee.specs.View.{callee_of}
use Rattle.cc_whole_step.proofs.ExitLaws.{exit-acts, exit-calls}
use Rattle.cc_whole_step.proofs.Resume.{comes-from}
use Rattle.cc_whole_step.specs.Comes.{Comes}
use Rattle.cc_whole_step.specs.Running.{calling, exiting}
use Rattle.std.proofs.lemmas.Result.{err_from_is_err_and}
use Rattle.cc_whole_step.proofs.moment.Moment.exit.Goals as goal

pub returns-in_err-callee-in-Some : goal.returns-in_err-callee-in-Some
returns-in_err-callee-in-Some c =
    let p = err_from_is_err_and c.from_residual.result c.from_residual.ensures.1 in
    rw (p.1, p.2) (exit-acts c.args.self.now c.args.status c.pop.new.self.items c.in-Some.function _ c.in-Some.ensures.items (sym c.in_err-callee-in-Some.ensures))

pub returns-in_ok-callee-in-Some : goal.returns-in_ok-callee-in-Some
returns-in_ok-callee-in-Some c =
    let fits : FitsSigned w64 c.args.status = search rules in
    comes-from (exiting c.args.status) (calling (callee_of c.in_ok-callee-in-Some.callee) []) c.invoke.result c.args.self.now
    (record c.args.self.now { registered = c.pop.new.self; status = Some c.args.status; level = record { depth = c.args.self.now.depth; in_helper = false } }) c.invoke.new.self
    (λ n o lt. exit-calls c.args.self.now c.pop.new.self c.args.status c.in-Some.function (callee_of c.in_ok-callee-in-Some.callee) c.requires c.in-Some.ensures.items (sym c.in_ok-callee-in-Some.ensures) n o lt)
    (let h : c.args.self.now.ticks ≤ c.args.self.now.ticks = omega arith in h)
    (subst (λ (z : ℤ). Comes (calling (callee_of c.in_ok-callee-in-Some.callee) []) c.invoke.result
    (record c.args.self.now { registered = c.pop.new.self; status = Some z; level = record { depth = c.args.self.now.depth; in_helper = false } }) c.invoke.new.self)
    (to_z-of_z {w = w64} {z = c.args.status} fits) c.invoke.ensures)
