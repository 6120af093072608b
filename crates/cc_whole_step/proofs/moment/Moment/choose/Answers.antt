use Rattle.std.proofs.Common.{◌≡◌, ◌∙◌, ◌≤◌, ◌-◌, ◌+◌, ℕ, List, [], ◌∷◌, ◌++◌, length, map, take, option_map, Option, Some, None, Result, Ok, Err, pos, ℤ, rules, arith, ap, sym, refl, subst}
use Rattle.cc_whole.specs.Plain.{body_of, else_of, expression_of}
use Rattle.cc_whole_step.proofs.StepLaws.{choose-acts}
use Rattle.std.proofs.lemmas.Result.{err_from_is_err_and}
use Rattle.cc_whole_step.proofs.moment.Moment.choose.Goals as goal

pub returns-in_err-number : goal.returns-in_err-number
returns-in_err-number c =
    let p = err_from_is_err_and c.from_residual.result c.from_residual.ensures.1 in
    rw (p.1, p.2) (choose-acts c.args.self.now (expression_of c.args.e.now) (body_of c.args.body.now) (else_of (option_map body_of c.args.other.now)) _ (sym c.in_err-number.ensures))
