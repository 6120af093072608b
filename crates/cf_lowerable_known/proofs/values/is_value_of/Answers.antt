use Rattle.std.proofs.Common.{sym, ap, ◌∙◌}
use Rattle.std.specs.Option.{option_map}
use Rattle.cf_lower_constants.specs.Knowing.{fact_in}
use Rattle.cf_lower_program.specs.Starts.{is_value_of}
use Rattle.cf_lower_types.specs.Bare.{sort_in}
use Rattle.cf_lowerable_known.proofs.values.is_value_of.Goals as goal

pub returns-in-Some : goal.returns-in-Some
returns-in-Some c =
    λ tables t n.
    c.is_of.ensures tables t n ∙ sym (ap (λ o. is_value_of (option_map (sort_in tables) o) (fact_in tables c.args.fact.now t n)) c.in-Some.is)
