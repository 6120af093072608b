use Rattle.cf_lower_calls.proofs.EnteredLaws.Alike.{alike-next}
use Rattle.cf_lower_calls.proofs.entered.functions_are_alike_at_the_next_bound.Goals as goal

pub returns : goal.returns
returns c B none simple n fit = alike-next B none simple n fit
