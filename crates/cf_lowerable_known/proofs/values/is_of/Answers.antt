use Rattle.std.proofs.Common.{Some, sym, ap, ◌∙◌}
use Rattle.cf_lower_constants.specs.Knowing.{fact_in}
use Rattle.cf_lower_program.specs.Starts.{is_value_of}
use Rattle.cf_lower_types.specs.Bare.{bare, sort_in, type_in}
use Rattle.cf_lowerable_known.proofs.values.is_of.Goals as goal

pub returns-in-Number : goal.returns-in-Number
returns-in-Number c =
    λ tables t n.
    c.is_number.ensures tables t n c.in-Number.field-0
    ∙ sym (ap (λ s. is_value_of (Some (sort_in tables s)) (fact_in tables c.args.fact.now t n)) c.in-Number.is)

pub returns-in-Address : goal.returns-in-Address
returns-in-Address c =
    λ tables t n.
    c.is_address.ensures tables t n (type_in tables c.in-Address.field-0)
    ∙ sym (ap (λ s. is_value_of (Some (sort_in tables s)) (fact_in tables c.args.fact.now t n)) c.in-Address.is)

pub returns-in-Code : goal.returns-in-Code
returns-in-Code c =
    λ tables t n.
    c.is_code.ensures tables t n (bare tables c.in-Code.field-0)
    ∙ sym (ap (λ s. is_value_of (Some (sort_in tables s)) (fact_in tables c.args.fact.now t n)) c.in-Code.is)
