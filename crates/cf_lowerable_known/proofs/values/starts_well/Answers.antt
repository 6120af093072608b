use Rattle.std.proofs.Common.{sym, ap, ◌∙◌}
use Rattle.cf_lower_constants.specs.Knowing.{fact_in}
use Rattle.cf_lower_program.specs.Starts.{is_value_of, starts_well}
use Rattle.cf_lowerable_known.proofs.values.starts_well.Goals as goal

pub returns-in-Place : goal.returns-in-Place
returns-in-Place c =
    λ n m t.
    let tables = c.args.tables.now in
    let value = fact_in tables c.args.fact.now t m in
    c.is_value_of.ensures tables t m ∙ ap (λ s. is_value_of s value) c.target_scalar-scalar.ensures
    ∙ sym (ap (λ p. starts_well (fact_in tables p c.args.at.now n) value) c.in-Place.is)
