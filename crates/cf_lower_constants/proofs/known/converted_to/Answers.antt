use Rattle.cf_lower_types.specs.Bare.{bare, type_in}
use Rattle.cf_lower_types.specs.declared.scalar.Scalar.TheVariants as scalar
use Rattle.cf_lower_constants.specs.Knowing.{known_in, target_in}
use Rattle.cf_lower_constants.proofs.Conversions.{as_place, as_scalar}
use Rattle.cf_lower_constants.proofs.known.converted_to.Goals as goal

pub returns-in-Number : goal.returns-in-Number
returns-in-Number c = λ tables cs.
    as_scalar tables cs (known_in tables c.args.known) (known_in tables c.as_number.result) c.args.to.now (scalar.Number c.in-Number.kind) c.in-Number.is
    (c.as_number.ensures tables cs)

pub returns-in-Address : goal.returns-in-Address
returns-in-Address c = λ tables cs.
    let given = known_in tables c.args.known in
    let made = known_in tables c.as_address.result in
    as_scalar tables cs given made c.args.to.now (scalar.Address c.in-Address.place) c.in-Address.is
    (as_place tables cs given made (target_in tables c.target_of.result) (type_in tables c.in-Address.place) (c.target_of.ensures tables) (c.as_address.ensures tables cs))

pub returns-in-Code : goal.returns-in-Code
returns-in-Code c = λ tables cs.
    as_scalar tables cs (known_in tables c.args.known) (known_in tables c.as_code.result) c.args.to.now (scalar.Code c.in-Code.field-0) c.in-Code.is
    (c.as_code.ensures tables cs (bare tables c.in-Code.field-0))
