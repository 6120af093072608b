use Rattle.std.proofs.Common.{Some, sym, ap, ◌∙◌}
use Rattle.cf_lower_constants.specs.Knowing.{fact_in}
use Rattle.cf_lower_program.specs.Alike.{fits_scalar}
use Rattle.cf_lower_types.specs.Bare.{sort_in}
use Rattle.cf_lowerable_starts.specs.Telling.{detail_in}
use Rattle.cf_lowerable_starts.proofs.values.fits_one.Goals as goal

pub returns-in-Number : goal.returns-in-Number
returns-in-Number c =
    λ n.
    let tables = c.args.tables.now in
    let f = detail_in tables c.args.detail in
    let x = fact_in tables c.args.fact.now c.args.target.now n in
    c.fits_number.ensures tables c.args.target.now n f ∙ sym (ap (λ s. fits_scalar (Some (sort_in tables s)) x f) c.in-Number.is)

pub returns-in_ok-is-in-Address : goal.returns-in_ok-is-in-Address
returns-in_ok-is-in-Address c =
    λ n.
    let tables = c.args.tables.now in
    let f = detail_in tables c.args.detail in
    let x = fact_in tables c.args.fact.now c.args.target.now n in
    c.in_ok-is-in-Address.ensures n f ∙ sym (ap (λ s. fits_scalar (Some (sort_in tables s)) x f) c.in-Address.is)

pub returns-in_ok-is-in-Code : goal.returns-in_ok-is-in-Code
returns-in_ok-is-in-Code c =
    λ n.
    let tables = c.args.tables.now in
    let f = detail_in tables c.args.detail in
    let x = fact_in tables c.args.fact.now c.args.target.now n in
    c.in_ok-is-in-Code.ensures c.args.target.now n ∙ sym (ap (λ s. fits_scalar (Some (sort_in tables s)) x f) c.in-Code.is)
