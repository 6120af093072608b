use Rattle.std.proofs.Common.{sym, ap, ◌∙◌}
use Rattle.cf_convert.specs.Converts.{steps}
use Rattle.cf_elab.specs.Answer.{Refused}
use Rattle.cf_elab.specs.Operand.{sort_of, val, defs}
use Rattle.cf_elab_fit.proofs.FitLaws.{fit_refused, user_fit_refused}
use Rattle.cf_elab_fit.proofs.fitting.fit.Goals as goal

pub returns-in-None-clause-standard : goal.returns-in-None-clause-standard
returns-in-None-clause-standard c =
    let env = c.args.env.now in
    let types = env.types in
    let value = c.args.value in
    let bare = c.bare-bare.ensures.value in
    let from = c.sort_of-from.ensures.value ∙ ap (sort_of types) c.ty.ensures in
    let wanted = c.sort_of-wanted.ensures.value ∙ ap (sort_of types) bare in
    let none = sym c.in-None.is ∙ c.in_ok-steps.ensures ∙ ap (steps types (defs env) (val value)) bare in
    fit_refused c.args.at value c.args.to env c.sort_of-from.result c.sort_of-wanted.result from wanted none ∙ ap (λ rule. Refused rule c.args.at) (sym c.misfit.ensures)

pub returns-in-None-clause-user : goal.returns-in-None-clause-user
returns-in-None-clause-user c =
    let env = c.args.env.now in
    let types = env.types in
    let value = c.args.value in
    let bare = c.bare-bare.ensures.value in
    let from = c.sort_of-from.ensures.value ∙ ap (sort_of types) c.ty.ensures in
    let wanted = c.sort_of-wanted.ensures.value ∙ ap (sort_of types) bare in
    let none = sym c.in-None.is ∙ c.in_ok-steps.ensures ∙ ap (steps types (defs env) (val value)) bare in
    user_fit_refused c.args.at value c.args.to env c.sort_of-from.result c.sort_of-wanted.result from wanted none c.classes-classes.ensures.no_class
    ∙ ap (λ rule. Refused rule c.args.at) (sym c.misfit.ensures)
