use Rattle.cf_lowerable_ready.proofs.TypeLaws.{function_holds_none, data_member_held, function_member_held}
use Rattle.cf_lowerable_ready.proofs.types.scalar_in.Goals as goal

pub returns-in-DataMember : goal.returns-in-DataMember
returns-in-DataMember c = data_member_held c.args.tables.now c.args.form c.args.id _ _ c.in-DataMember.is c.requires.is

pub returns-in-FunctionMember : goal.returns-in-FunctionMember
returns-in-FunctionMember c = function_member_held c.args.tables.now c.args.form c.args.id _ _ c.in-FunctionMember.is c.requires.is

pub returns-in-Function : goal.returns-in-Function
returns-in-Function c = function_holds_none c.args.tables.now c.args.form _ c.in-Function.is
