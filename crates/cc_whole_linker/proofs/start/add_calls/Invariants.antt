use Rattle.std.proofs.Common.{◌≡◌, ◌++◌, drop}
use Rattle.cc_whole_link.specs.Link.{calls_of}
use Rattle.cc_whole_linker.specs.Rules.{seen}
use Rattle.cc_whole_linker.proofs.start.add_calls.Given as goal

abbrev pub invariant-loop-placed : goal.invariant-loop-placed
invariant-loop-placed l = l.out ++ calls_of l.name (seen (drop l.placed-index l.all)) ≡ l.initial.out ++ calls_of l.name (seen l.all)
