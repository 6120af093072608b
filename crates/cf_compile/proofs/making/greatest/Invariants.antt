-- The greatest of the numbers so far.
use Rattle.std.proofs.Common.{◌≡◌, take}
use Rattle.cf_compile.specs.Takes.{greatest}
use Rattle.cf_compile.proofs.making.greatest.Given as goal

abbrev pub invariant-loop-bound : goal.invariant-loop-bound
invariant-loop-bound l = l.most ≡ greatest (take l.bound-index l.bounds)
