use Rattle.std.proofs.Common.{◌≡◌, ◌++◌, drop}
use Rattle.cf_enter.specs.Steps.{names_of}
use Rattle.cf_enter.proofs.parameters.listed.Given as goal

abbrev pub invariant-loop-param : goal.invariant-loop-param
invariant-loop-param l = l.names ++ names_of (drop l.param-index l.all) ≡ names_of l.fn.all
