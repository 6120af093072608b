use Rattle.cf_elab_valid_objects.proofs.Kept.{initial-fine}
use Rattle.cf_elab_valid_objects.proofs.Written.{nothing-fine, starting-fine}
use Rattle.cf_elab_valid_objects.proofs.laws.initialisers_are_valid.Goals as goal

pub returns : goal.returns
returns c = λ s scene arrays keeper keeps. record {
  by_value = λ at t v e classless h f i n. initial-fine s scene keeper keeps e v classless h f at t i n;
  as_written = starting-fine s scene arrays keeper keeps;
  nothing = nothing-fine s scene arrays keeper keeps;
}
