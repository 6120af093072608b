use Rattle.std.proofs.Common.{◌≡◌, ◌∙◌, ◌≤◌, ◌-◌, ◌+◌, ℕ, List, [], ◌∷◌, ◌++◌, length, map, take, option_map, Option, Some, None, Result, Ok, Err, pos, ℤ, rules, arith, FitsSigned, w64, to_z-of_z, ap, sym, refl, subst}
use Rattle.cc_whole.specs.Plain.{expression_of}
use Rattle.cc_whole_mean.specs.Mean.{wanted}
use Rattle.cc_whole_step.proofs.StepLaws.{select-acts, select-pushed}
use Rattle.cc_whole_step.specs.Running.{switch_of}
use Rattle.std.proofs.lemmas.Result.{err_from_is_err_and}
use Rattle.cf_base.specs.Integers.{bits_of}
use Rattle.cc_whole_step.proofs.moment.Moment.select.Goals as goal

pub returns-in_err-number : goal.returns-in_err-number
returns-in_err-number c =
    let p = err_from_is_err_and c.from_residual.result c.from_residual.ensures.1 in
    rw (p.1, p.2) (select-acts c.args.self.now (expression_of c.args.e.now) (switch_of c.args.items.now) _ (sym c.in_err-number.ensures))

pub returns : goal.returns
returns c =
    let fits : FitsSigned w64 c.in_ok-number.number = search rules in
    select-pushed c.args.self.now c.push.new.self (expression_of c.args.e.now) (switch_of c.args.items.now) c.in_ok-number.number c.wanted-label.result c.behind_label.result
    (sym c.in_ok-number.ensures) (c.wanted-label.ensures ∙ ap (λ b. wanted b (switch_of c.args.items.now)) (c.bits_of.ensures ∙ ap (bits_of 32) (to_z-of_z {w = w64} {z = c.in_ok-number.number} fits))) c.behind_label.ensures c.in_ok-push.ensures.items
