use Rattle.std.proofs.Common.{rules, ◌≡◌, sym, subst, ◌∙◌}
use Rattle.cf_elab.specs.Answer.{Answer}
use Rattle.cf_elab.specs.Operand.{Value}
use Rattle.cf_elab_env.specs.Answered.{Stops}
use Rattle.cf_elab_call.specs.Shut as shut
use Rattle.cf_elab_call.proofs.CallLaws.{pointer_stops, pointer_then}
use Rattle.cf_elab_call.proofs.calls.call_pointer.Goals as goal

pub returns-in_err-check_arguments-clause-made : goal.returns-in_err-check_arguments-clause-made
returns-in_err-check_arguments-clause-made c =
    let signature = c.in_ok-signature in
    let stops : Stops (shut.call_pointer c.args.at c.args.pointer c.args.ty c.args.values c.args.env.now) c.in_err-check_arguments.field-0.0 =
    pointer_stops c.args.at c.args.pointer c.args.ty c.args.values c.as_slice-2.result.now c.args.env.now signature.signature.params c.as_slice.result.now signature.signature.returns
    signature.ensures.params signature.ensures.returns c.as_slice.ensures c.as_slice-2.ensures c.in_err-check_arguments.field-0.0 c.in_err-check_arguments.ensures.made in
    search rules

pub returns-in_err-value-clause-made : goal.returns-in_err-value-clause-made
returns-in_err-value-clause-made c =
    let signature = c.in_ok-signature in
    let stop = c.in_err-value.field-0.0 in
    let then : shut.call_pointer c.args.at c.args.pointer c.args.ty c.args.values c.args.env.now
    ≡ shut.through c.args.at c.args.pointer c.args.ty signature.signature.params signature.signature.returns c.args.values c.args.env.now =
    pointer_then c.args.at c.args.pointer c.args.ty c.args.values c.as_slice-2.result.now c.args.env.now signature.signature.params c.as_slice.result.now signature.signature.returns
    signature.ensures.params signature.ensures.returns c.as_slice.ensures c.as_slice-2.ensures c.in_ok-check_arguments.field-0 c.in_ok-check_arguments.ensures.made in
    let stops : Stops (shut.call_pointer c.args.at c.args.pointer c.args.ty c.args.values c.args.env.now) stop =
    subst (λ (a : Answer Value). Stops a stop) (sym then) c.in_err-value.ensures.made in
    search rules

pub returns-clause-made : goal.returns-clause-made
returns-clause-made c =
    let signature = c.in_ok-signature in
    pointer_then c.args.at c.args.pointer c.args.ty c.args.values c.as_slice-2.result.now c.args.env.now signature.signature.params c.as_slice.result.now signature.signature.returns
    signature.ensures.params signature.ensures.returns c.as_slice.ensures c.as_slice-2.ensures c.in_ok-check_arguments.field-0 c.in_ok-check_arguments.ensures.made
    ∙ c.in_ok-value.ensures.made
