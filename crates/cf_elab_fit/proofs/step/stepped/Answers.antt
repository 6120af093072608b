use Rattle.cf_elab_fit.proofs.Stepped.{promote_step, integer_step}
use Rattle.cf_elab_fit.proofs.step.stepped.Goals as goal

pub returns-in_ok-promoted-in-Promote-clause-made : goal.returns-in_ok-promoted-in-Promote-clause-made
returns-in_ok-promoted-in-Promote-clause-made c =
    promote_step c.args.to c.args.step.now c.args.value c.in_ok-promoted-in-Promote.promoted c.args.env.now c.sort_of.result c.promoted_kind-kind.result
    c.in-Promote.is c.sort_of.ensures.value c.promoted_kind-kind.ensures c.in_ok-promoted-in-Promote.ensures

pub returns-in_ok-integer-in-Integer-clause-made : goal.returns-in_ok-integer-in-Integer-clause-made
returns-in_ok-integer-in-Integer-clause-made c =
    integer_step c.args.to c.args.step.now c.args.value c.in_ok-integer-in-Integer.integer c.args.env.now _ c.in-Integer.is c.in_ok-integer-in-Integer.ensures
