use Rattle.std.proofs.Common.{refl}
use Rattle.cf_types.specs.declared.ty.Fun.{Fun}
use Rattle.cf_elab_unit.proofs.BodyLaws.CallSignatureLaws.{function_result, function_result_known, no_result, first_known}
use Rattle.cf_elab_unit.proofs.definitions.hands.result_at.Goals as goal

pub returns-in-Function : goal.returns-in-Function
returns-in-Function c =
    let types = c.args.env.now.types in
    let fun : Fun = c.fun_at-fun.result.now in
    record {
      value = function_result types c.args.ty c.holds.ensures.table c.requires c.sort_of.result c.sort_of.ensures.value c.in-Function.number fun c.in-Function.is c.fun_at-fun.ensures
          fun.result refl;
      known = function_result_known types c.args.ty c.holds.ensures.table c.requires c.sort_of.result c.sort_of.ensures.value c.in-Function.number fun c.in-Function.is c.fun_at-fun.ensures
          fun.result refl;
    }

pub returns-in_default : goal.returns-in_default
returns-in_default c =
    let types = c.args.env.now.types in
    record {
      value = no_result types c.args.ty c.holds.ensures.table c.requires c.sort_of.result c.sort_of.ensures.value c.in_default.not-Function c.new.result c.new.ensures;
      known = first_known types c.args.ty c.new.result c.requires c.new.ensures;
    }
