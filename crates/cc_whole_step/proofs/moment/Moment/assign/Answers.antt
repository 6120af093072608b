use Rattle.std.proofs.Common.{◌≡◌, ◌∙◌, ◌≤◌, ◌-◌, ◌+◌, ℕ, List, [], ◌∷◌, ◌++◌, length, map, take, option_map, Option, Some, None, Result, Ok, Err, pos, ℤ, rules, arith, ap, sym, refl, subst}
use Rattle.cc_whole.specs.Plain.{expression_of, place_of}
use Rattle.cc_whole_step.proofs.StepLaws.{assign-acts}
use Rattle.std.proofs.lemmas.Result.{err_from_is_err_and}
use Rattle.cc_whole_step.proofs.moment.Moment.assign.Goals as goal

pub returns-in_err-assign : goal.returns-in_err-assign
returns-in_err-assign c =
    let p = err_from_is_err_and c.from_residual.result c.from_residual.ensures.1 in
    rw (p.1, p.2) (assign-acts c.args.self.now (place_of c.args.place.now) (expression_of c.args.e.now) _ c.in_err-assign.ensures.err)
