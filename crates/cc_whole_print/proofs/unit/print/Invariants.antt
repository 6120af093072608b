use Rattle.std.proofs.Common.{◌≡◌, ◌++◌, map, take}
use Rattle.std.specs.List.{concat}
use Rattle.cc_whole_print.specs.Units.{item_text}
use Rattle.cc_whole_print.proofs.unit.print.Given as goal

abbrev pub invariant-loop-one : goal.invariant-loop-one
invariant-loop-one l = l.out.items ≡ l.initial.out.items ++ concat (map item_text (take l.one-index l.one-items))
