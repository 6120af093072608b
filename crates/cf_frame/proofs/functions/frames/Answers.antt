use Rattle.std.proofs.Common.{◌≡◌, ◌++◌, ◌∷◌, [], ◌≤◌, length, map, List, append-nil, sym, ap, ◌∙◌, arith}
use Rattle.std.proofs.Math.ListN.{drop_of_length-le}
use Rattle.std.proofs.lemmas.Bool.Decides.{nat_tests}
use Rattle.cf_core.specs.declared.unit.CoreFn.{CoreFn}
use Rattle.cf_frame.specs.Bound.{function_total}
use Rattle.cf_frame.proofs.BoundLaws.{all-frames}
use Rattle.cf_frame.proofs.functions.frames.Goals as goal

pub returns : goal.returns
returns c =
    let unit = c.args.unit.now in
    let items = c.functions-function-items.result.now in
    let loop = c.loop-function in
    let test = c.loop-function-test.false in
    let past : length items ≤ loop.function-index = grind (arith, nat_tests) in
    let done : loop.all ≡ map (function_total unit) items =
    sym (ap (λ (fs : List CoreFn). loop.all ++ map (function_total unit) fs) (drop_of_length-le items past) ∙ append-nil loop.all) ∙ loop.invariant.totals in
    c.in_ok-push-2.ensures.ok
    ∙ ap (λ l. l ++ c.initialiser_frame.result ∷ []) (done ∙ ap (map (function_total unit)) c.functions-function-items.ensures.functions)
    ∙ ap (λ n. map (function_total unit) unit.functions ++ n ∷ []) c.initialiser_frame.ensures
    ∙ all-frames unit c.functions-function-items.ensures.valid c.requires.none_made c.requires.none_defined
