use Rattle.std.proofs.Common.{◌≡◌, take}
use Rattle.cc_whole_rename.proofs.copies.copied_parameters.Given as goal

abbrev pub invariant-loop-one : goal.invariant-loop-one
invariant-loop-one l = l.made ≡ take l.one-index l.all
