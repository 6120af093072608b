use Rattle.cf_elab_operand.proofs.FunctionLaws.{function_is}
use Rattle.cf_elab_operand.proofs.functions.one_function.Goals as goal

pub returns-in_ok-value-clause-made : goal.returns-in_ok-value-clause-made
returns-in_ok-value-clause-made c =
    function_is c.args.at c.args.number c.args.env.now c.entry.result.now c.in_ok-value.value c.entry.ensures.value c.in_ok-value.ensures.made
