use Rattle.std.proofs.Common.{◌≡◌, ◌++◌, drop}
use Rattle.cc_whole.specs.Uses.{parameter_names}
use Rattle.cc_whole_uses.specs.Told.{told}
use Rattle.cc_whole_uses.proofs.items.put_parameters.Given as goal

abbrev pub invariant-loop-parameter : goal.invariant-loop-parameter
invariant-loop-parameter l = told l.out.items ++ parameter_names (drop l.parameter-index l.parameters) ≡ told l.initial.out.items ++ parameter_names l.parameters
