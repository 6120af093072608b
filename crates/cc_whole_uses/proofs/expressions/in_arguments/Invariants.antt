use Rattle.std.proofs.Common.{◌≡◌, ◌++◌, map, drop}
use Rattle.cc_whole.specs.Plain.{expression_of}
use Rattle.cc_whole.specs.Uses.{uses_of_all}
use Rattle.cc_whole_uses.specs.Told.{told}
use Rattle.cc_whole_uses.proofs.expressions.in_arguments.Given as goal

abbrev pub invariant-loop-e : goal.invariant-loop-e
invariant-loop-e l =
    told l.out.items ++ uses_of_all (map expression_of (drop l.e-index l.all)) l.hidden ≡ told l.initial.out.items ++ uses_of_all (map expression_of l.all) l.hidden
