use Rattle.std.proofs.Common.{rules, ◌≡◌, ◌∷◌, [], ap, sym, subst, ◌∙◌}
use Rattle.cf_elab.specs.Answer.{Answer}
use Rattle.cf_elab.specs.Env.{FunctionEntry}
use Rattle.cf_elab.specs.Operand.{Value}
use Rattle.cf_elab_env.specs.Answered.{Stops}
use Rattle.cf_elab_call.specs.Shut as shut
use Rattle.cf_elab_call.proofs.CallLaws.{declared_stops, declared_then}
use Rattle.cf_elab_call.proofs.calls.call_declared.Goals as goal

pub returns-in_err-check_arguments-clause-made : goal.returns-in_err-check_arguments-clause-made
returns-in_err-check_arguments-clause-made c =
    let entry = c.entry-entry in
    let signature = c.in_ok-signature in
    let stops : Stops (shut.call_functions c.args.at (c.args.number ∷ []) c.args.values c.args.env.now) c.in_err-check_arguments.field-0.0 =
    declared_stops c.args.at c.args.values c.args.env.now c.args.number entry.result.now c.in_ok-link.link c.entry.inside.ty signature.signature.params c.as_slice-2.result.now
    c.as_slice-3.result.now signature.signature.returns entry.ensures.value entry.ensures.known (c.in_ok-link.ensures ∙ c.as_slice.ensures ∙ ap (λ (f : FunctionEntry). f.link) c.entry.view_is) (ap (λ (f : FunctionEntry). f.type) c.entry.view_is) signature.ensures.params
    signature.ensures.returns c.as_slice-2.ensures c.as_slice-3.ensures c.in_err-check_arguments.field-0.0 c.in_err-check_arguments.ensures.made in
    search rules

pub returns-in_err-value-clause-made : goal.returns-in_err-value-clause-made
returns-in_err-value-clause-made c =
    let entry = c.entry-entry in
    let signature = c.in_ok-signature in
    let stop = c.in_err-value.field-0.0 in
    let then : shut.call_functions c.args.at (c.args.number ∷ []) c.args.values c.args.env.now
    ≡ shut.direct c.args.at c.in_ok-link.link c.entry.inside.ty signature.signature.params signature.signature.returns c.args.values c.args.env.now =
    declared_then c.args.at c.args.values c.args.env.now c.args.number entry.result.now c.in_ok-link.link c.entry.inside.ty signature.signature.params c.as_slice-2.result.now
    c.as_slice-3.result.now signature.signature.returns entry.ensures.value entry.ensures.known (c.in_ok-link.ensures ∙ c.as_slice.ensures ∙ ap (λ (f : FunctionEntry). f.link) c.entry.view_is) (ap (λ (f : FunctionEntry). f.type) c.entry.view_is) signature.ensures.params
    signature.ensures.returns c.as_slice-2.ensures c.as_slice-3.ensures c.in_ok-check_arguments.field-0 c.in_ok-check_arguments.ensures.made in
    let stops : Stops (shut.call_functions c.args.at (c.args.number ∷ []) c.args.values c.args.env.now) stop =
    subst (λ (a : Answer Value). Stops a stop) (sym then) c.in_err-value.ensures.made in
    search rules

pub returns-clause-made : goal.returns-clause-made
returns-clause-made c =
    let entry = c.entry-entry in
    let signature = c.in_ok-signature in
    declared_then c.args.at c.args.values c.args.env.now c.args.number entry.result.now c.in_ok-link.link c.entry.inside.ty signature.signature.params c.as_slice-2.result.now
    c.as_slice-3.result.now signature.signature.returns entry.ensures.value entry.ensures.known (c.in_ok-link.ensures ∙ c.as_slice.ensures ∙ ap (λ (f : FunctionEntry). f.link) c.entry.view_is) (ap (λ (f : FunctionEntry). f.type) c.entry.view_is) signature.ensures.params
    signature.ensures.returns c.as_slice-2.ensures c.as_slice-3.ensures c.in_ok-check_arguments.field-0 c.in_ok-check_arguments.ensures.made
    ∙ c.in_ok-value.ensures.made
