use Rattle.std.proofs.Common.{◌≡◌, drop}
use Rattle.cf_unit.specs.Enters.{with_values}
use Rattle.cf_enter.proofs.parameters.enter_values.Given as goal

abbrev pub invariant-loop-name : goal.invariant-loop-name
invariant-loop-name l = with_values l.names (drop l.name-index l.all) ≡ with_values l.fn.names l.fn.all
