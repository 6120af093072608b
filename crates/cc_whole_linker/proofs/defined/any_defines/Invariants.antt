use Rattle.std.proofs.Common.{◌≡◌, drop}
use Rattle.std.specs.List.{list_any}
use Rattle.cc_whole_link.specs.Placed.{defines_named}
use Rattle.cc_whole_linker.specs.Rules.{seen}
use Rattle.cc_whole_linker.proofs.defined.any_defines.Given as goal

abbrev pub invariant-loop-placed : goal.invariant-loop-placed
invariant-loop-placed l = list_any (defines_named l.name) (seen (drop l.placed-index l.all)) ≡ list_any (defines_named l.name) (seen l.all)
