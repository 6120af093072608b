use Rattle.std.proofs.Common.{◌≡◌, drop}
use Rattle.cf_lowerable_names.specs.Given.{functions_in}
use Rattle.cf_lowerable_names.proofs.named.functions_there.Given as goal

abbrev pub invariant-loop-function : goal.invariant-loop-function
invariant-loop-function l = functions_in l.names l.tables (drop l.function-index l.functions) ≡ functions_in l.names l.tables l.functions
