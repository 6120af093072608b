use Rattle.std.proofs.Common.{◌≡◌, Some, None, slice_get, ap, sym, ◌∙◌}
use Rattle.cf_frame.proofs.BoundLaws.{of_some, of_none, some-at, none-at}
use Rattle.cf_frame.proofs.functions.frame.Goals as goal

pub returns-in-Some : goal.returns-in-Some
returns-in-Some c =
    let unit = c.args.unit.now in
    let all = c.functions-functions.result.now in
    let found = c.in-Some.found.now in
    let at : slice_get unit.functions c.args.function ≡ Some found =
    ap (λ fs. slice_get fs c.args.function) (sym c.functions-functions.ensures.functions)
    ∙ some-at all c.args.function found c.in-Some.ensures.lookup.3.0 ∙ ap Some (sym c.in-Some.ensures.lookup.1) in
    c.function_frame.ensures ∙ of_some unit c.functions-functions.ensures.valid c.requires.none_made c.requires.none_defined c.args.function found at

pub returns-in-None : goal.returns-in-None
returns-in-None c =
    let unit = c.args.unit.now in
    let at : slice_get unit.functions c.args.function ≡ None =
    ap (λ fs. slice_get fs c.args.function) (sym c.functions-functions.ensures.functions)
    ∙ none-at c.functions-functions.result.now c.args.function c.in-None.ensures.lookup.3 in
    c.initialiser_frame.ensures ∙ of_none unit c.functions-functions.ensures.valid c.requires.none_made c.requires.none_defined c.args.function at
