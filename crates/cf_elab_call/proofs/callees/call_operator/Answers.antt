use Rattle.std.proofs.Common.{rules, ap, sym, subst, ◌∙◌}
use Rattle.cf_elab.specs.Answer.{Answer}
use Rattle.cf_elab.specs.Operand.{Value, sort_of}
use Rattle.cf_elab_env.specs.Answered.{Stops}
use Rattle.cf_elab_call.specs.Shut as shut
use Rattle.cf_elab_call.proofs.CalleeLaws.{no_object}
use Rattle.cf_elab_call.proofs.callees.call_operator.Goals as goal

pub returns-in_err-value-clause-made : goal.returns-in_err-value-clause-made
returns-in_err-value-clause-made c =
    let found = c.sort_of-no_class.ensures.value ∙ ap (sort_of c.args.env.now.types) c.ty.ensures in
    let stop = c.in_err-value.field-0.0 in
    let stops : Stops (shut.call_operator c.args.at c.args.function c.args.values c.args.env.now) stop =
    subst (λ (a : Answer Value). Stops a stop) (sym (no_object c.args.at c.args.values c.args.env.now c.args.function c.sort_of-no_class.result found)) c.in_err-value.ensures.made in
    search rules

pub returns-clause-made : goal.returns-clause-made
returns-clause-made c =
    let found = c.sort_of-no_class.ensures.value ∙ ap (sort_of c.args.env.now.types) c.ty.ensures in
    no_object c.args.at c.args.values c.args.env.now c.args.function c.sort_of-no_class.result found ∙ c.in_ok-value.ensures.made
