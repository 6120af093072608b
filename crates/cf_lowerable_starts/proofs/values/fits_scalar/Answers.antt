use Rattle.std.proofs.Common.{sym, ap, ◌∙◌}
use Rattle.std.specs.Option.{option_map}
use Rattle.cf_lower_constants.specs.Knowing.{fact_in}
use Rattle.cf_lower_program.specs.Alike.{fits_scalar}
use Rattle.cf_lower_types.specs.Bare.{sort_in}
use Rattle.cf_lowerable_starts.specs.Telling.{detail_in}
use Rattle.cf_lowerable_starts.proofs.values.fits_scalar.Goals as goal

pub returns-in_ok-is-in-Some : goal.returns-in_ok-is-in-Some
returns-in_ok-is-in-Some c =
    λ n.
    let tables = c.args.tables.now in
    let f = detail_in tables c.args.detail in
    let x = fact_in tables c.args.fact.now c.args.target.now n in
    c.in_ok-is-in-Some.ensures n ∙ sym (ap (λ o. fits_scalar (option_map (sort_in tables) o) x f) c.in-Some.is)
