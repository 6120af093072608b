use Rattle.cf_elab_valid_objects.proofs.Initialisers.{value-leaves, written-leaves}
use Rattle.cf_elab_valid_objects.proofs.laws.initialisers_leave_names.Goals as goal

pub returns : goal.returns
returns c = λ keeper keeps. record { by_value = value-leaves keeper keeps; as_written = written-leaves keeper keeps }
