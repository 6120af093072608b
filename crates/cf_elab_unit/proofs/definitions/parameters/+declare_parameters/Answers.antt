use Rattle.std.proofs.Common.{rules}
use Rattle.cf_elab_unit.proofs.DefinitionsLaws.ParameterLaws.{first_declared, rest_typed}
use Rattle.cf_elab_unit.proofs.definitions.parameters.+declare_parameters.Goals as goal

pub declare_parameters-requires : goal.declare_parameters-requires
declare_parameters-requires t c = (
  search rules,
  rest_typed c.args.env.now.types c.declare_parameter.new.env.types c.args.parameters.now c.in-Some.rest.now c.in-Some.parameter.now c.in-Some.ensures.cases.0
      c.in_ok-declare_parameter-in-Some.ensures.types c.requires,
)

pub returns-in_err-declare_parameter-in-Some-clause-made : goal.returns-in_err-declare_parameter-in-Some-clause-made
returns-in_err-declare_parameter-in-Some-clause-made t c =
    rw (first_declared c.args.first c.args.parameters.now c.args.env.now c.in-Some.rest.now c.in-Some.parameter.now c.in_ok-next-in-Some.next c.in-Some.ensures.cases.0 c.in_ok-next-in-Some.ensures) (search rules)

pub returns-in_err-declare_parameters-in-Some-clause-made : goal.returns-in_err-declare_parameters-in-Some-clause-made
returns-in_err-declare_parameters-in-Some-clause-made t c =
    rw (first_declared c.args.first c.args.parameters.now c.args.env.now c.in-Some.rest.now c.in-Some.parameter.now c.in_ok-next-in-Some.next c.in-Some.ensures.cases.0 c.in_ok-next-in-Some.ensures) (search rules)

pub returns-in_ok-declare_parameters-in-Some-clause-made : goal.returns-in_ok-declare_parameters-in-Some-clause-made
returns-in_ok-declare_parameters-in-Some-clause-made t c =
    rw (first_declared c.args.first c.args.parameters.now c.args.env.now c.in-Some.rest.now c.in-Some.parameter.now c.in_ok-next-in-Some.next c.in-Some.ensures.cases.0 c.in_ok-next-in-Some.ensures) (search rules)
