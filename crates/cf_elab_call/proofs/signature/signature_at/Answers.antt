use Rattle.std.proofs.Common.{slice_get, ap, ◌∙◌, sym}
use Rattle.cf_types.specs.Table.{Table}
use Rattle.cf_elab_call.proofs.SignatureLaws.{function_params, function_result, function_result_known, no_params, no_result, none_known, first_known}
use Rattle.cf_elab_call.proofs.signature.signature_at.Goals as goal

pub returns-in_ok-signature-in-Function-clause-params : goal.returns-in_ok-signature-in-Function-clause-params
returns-in_ok-signature-in-Function-clause-params c =
    let entry = ap (λ (t : Table). slice_get t.funs c.in-Function.fun) (sym c.types.ensures.value) ∙ c.get_fun.ensures in
    let made = c.in_ok-signature-in-Function in
    function_params c.args.env.now.types c.args.ty c.holds.ensures.table c.requires c.sort_of.result c.sort_of.ensures.value c.in-Function.fun c.get_fun.result.now c.in-Function.is entry
    made.signature.params made.ensures.params

pub returns-in_ok-signature-in-Function-clause-returns : goal.returns-in_ok-signature-in-Function-clause-returns
returns-in_ok-signature-in-Function-clause-returns c =
    let entry = ap (λ (t : Table). slice_get t.funs c.in-Function.fun) (sym c.types.ensures.value) ∙ c.get_fun.ensures in
    let made = c.in_ok-signature-in-Function in
    function_result c.args.env.now.types c.args.ty c.holds.ensures.table c.requires c.sort_of.result c.sort_of.ensures.value c.in-Function.fun c.get_fun.result.now c.in-Function.is entry
    made.signature.returns made.ensures.returns

pub returns-in_ok-signature-in-Function-clause-returns_known : goal.returns-in_ok-signature-in-Function-clause-returns_known
returns-in_ok-signature-in-Function-clause-returns_known c =
    let entry = ap (λ (t : Table). slice_get t.funs c.in-Function.fun) (sym c.types.ensures.value) ∙ c.get_fun.ensures in
    let made = c.in_ok-signature-in-Function in
    function_result_known c.args.env.now.types c.args.ty c.holds.ensures.table c.requires c.sort_of.result c.sort_of.ensures.value c.in-Function.fun c.get_fun.result.now c.in-Function.is entry
    made.signature.returns made.ensures.returns

pub returns-in_default : goal.returns-in_default
returns-in_default c =
    let types = c.args.env.now.types in
    let found = c.sort_of.ensures.value in
    let none = c.in_default.not-Function in
    record {
      params = no_params types c.args.ty c.holds.ensures.table c.requires c.sort_of.result found none c.new.result c.new.ensures;
      returns = no_result types c.args.ty c.holds.ensures.table c.requires c.sort_of.result found none c.new-in_default.result c.new-in_default.ensures;
      params_known = none_known types c.new.result c.new.ensures;
      returns_known = first_known types c.args.ty c.new-in_default.result c.requires c.new-in_default.ensures;
    }
