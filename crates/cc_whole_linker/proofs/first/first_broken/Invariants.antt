use Rattle.std.proofs.Common.{[], Option, take, drop}
use Rattle.cc_whole_link.specs.Link.{Refusal, FirstBroken}
use Rattle.cc_whole_linker.specs.Rules.{seen}
use Rattle.cc_whole_linker.proofs.first.first_broken.Given as goal

abbrev pub invariant-loop-index : goal.invariant-loop-index
invariant-loop-index l =
    (r : Option Refusal) → FirstBroken (seen l.all) (seen (take l.index l.all)) (seen (drop l.index l.all)) r → FirstBroken (seen l.all) [] (seen l.all) r
