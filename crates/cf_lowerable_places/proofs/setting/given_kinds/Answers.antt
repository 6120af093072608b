use Rattle.cf_lowerable_types.specs.Kinds.{has_kind}
use Rattle.cf_lowerable_places.specs.Contents.{knowing}
use Rattle.cf_lowerable_places.proofs.ActionKinds.{unary_given, truth_given, not_given, convert_given, call_given, pointed_given}
use Rattle.cf_lowerable_places.proofs.setting.given_kinds.Goals as goal

pub returns-in-Convert : goal.returns-in-Convert
returns-in-Convert c =
    let x = c.args.x.now in
    let g = knowing x c.args.cs.now in
    convert_given x g c.args.a.now (has_kind c.kinds_of_scalar.result) c.sort_of.result (c.kinds_of_scalar.ensures x.tables.now) c.in-Convert.ty _ c.in-Convert.is c.sort_of.ensures

pub returns-in-Unary : goal.returns-in-Unary
returns-in-Unary c =
    let x = c.args.x.now in
    let g = knowing x c.args.cs.now in
    unary_given x g c.args.a.now (has_kind c.kinds_within.result) _ c.in-Unary.kind _ c.in-Unary.is c.kinds_within.ensures

pub returns-in-Truth : goal.returns-in-Truth
returns-in-Truth c =
    let x = c.args.x.now in
    let g = knowing x c.args.cs.now in
    truth_given x g c.args.a.now (has_kind c.all_kinds.result) _ c.in-Truth.is c.all_kinds.ensures

pub returns-in-Not : goal.returns-in-Not
returns-in-Not c =
    let x = c.args.x.now in
    let g = knowing x c.args.cs.now in
    not_given x g c.args.a.now (has_kind c.all_kinds-in-Not.result) _ c.in-Not.is c.all_kinds-in-Not.ensures

pub returns-in-Call : goal.returns-in-Call
returns-in-Call c =
    let x = c.args.x.now in
    let g = knowing x c.args.cs.now in
    call_given x g c.args.a.now (has_kind c.kinds_of_scalar-in-Call.result) c.result_sort.result (c.kinds_of_scalar-in-Call.ensures x.tables.now) _ c.in-Call.ty _ _ _ c.in-Call.is
    c.result_sort.ensures

pub returns-in-PointerCall : goal.returns-in-PointerCall
returns-in-PointerCall c =
    let x = c.args.x.now in
    let g = knowing x c.args.cs.now in
    pointed_given x g c.args.a.now (has_kind c.kinds_of_scalar-in-PointerCall.result) c.result_sort-in-PointerCall.result (c.kinds_of_scalar-in-PointerCall.ensures x.tables.now)
    c.in-PointerCall.ty _ _ _ _ c.in-PointerCall.is c.result_sort-in-PointerCall.ensures
