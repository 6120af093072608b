use Rattle.std.proofs.Common.{◌≡◌, drop}
use Rattle.cf_lowerable_names.specs.Linked.{functions_named}
use Rattle.cf_lowerable_names.proofs.linked.functions_named.Given as goal

abbrev pub invariant-loop-function : goal.invariant-loop-function
invariant-loop-function l = functions_named (drop l.function-index l.functions) ≡ functions_named l.functions
