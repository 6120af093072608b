use Rattle.std.proofs.Common.{◌∙◌, Some, ap}
use Rattle.std.proofs.lemmas.Option.{slice_get_within, slice_get-get_or}
use Rattle.cf_core_objects.proofs.LogLaws.{untouched-log, value-says, zeros-says}
use Rattle.cf_core_objects.proofs.log.value_at.Goals as goal

pub returns-in-None : goal.returns-in-None
returns-in-None c = λ t old zeros first. untouched-log t c.args.log.now c.args.part old c.in-None.ensures ∙ first

pub returns-in-Value : goal.returns-in-Value
returns-in-Value c = λ t old zeros first.
    let x = c.in-Some.ensures in
    value-says t old c.args.log.now c.args.part c.in-Some.number c.in-Value.field-0 c.in-Value.value x
    (slice_get-get_or c.args.log.now c.in-Some.number _ (slice_get_within c.args.log.now c.in-Some.number x.entry x.is) ∙ ap Some c.in-Value.is)

pub returns-in-Zeros : goal.returns-in-Zeros
returns-in-Zeros c = λ t old zeros first.
    let x = c.in-Some.ensures in
    zeros-says t old c.args.log.now c.args.part c.in-Some.number c.in-Zeros.field-0 x
    (slice_get-get_or c.args.log.now c.in-Some.number _ (slice_get_within c.args.log.now c.in-Some.number x.entry x.is) ∙ ap Some c.in-Zeros.is)
    ∙ ap Some zeros
