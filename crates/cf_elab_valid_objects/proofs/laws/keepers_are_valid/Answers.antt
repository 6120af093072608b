use Rattle.cf_elab_valid_objects.proofs.Keepers.{no_keeper-is, local_keeper-is, static_keeper-is}
use Rattle.cf_elab_valid_objects.proofs.laws.keepers_are_valid.Goals as goal

pub returns : goal.returns
returns c = λ s scene. record { none = no_keeper-is s scene; local = local_keeper-is s scene; static = static_keeper-is s scene }
