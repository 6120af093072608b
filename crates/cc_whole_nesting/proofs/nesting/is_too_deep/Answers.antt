use Rattle.std.proofs.Common.{◌≡◌, ◌<◌, ◌≤◌, false, arith}
use Rattle.std.specs.Prelude.{nat_lt}
use Rattle.std.proofs.lemmas.Bool.Decides.{nat_tests}
use Rattle.cc_whole_nesting.specs.Nesting.{Levels, depth, nesting_limit}
use Rattle.cc_whole_nesting.proofs.nesting.is_too_deep.Goals as goal

-- no level counts more than the nesting
count_within : (l : Levels) → nat_lt nesting_limit (depth l) ≡ false → l.count < 4294967295
count_within l e =
    let within : depth l ≤ 1024 = grind (arith, nat_tests, e) in
    omega (arith, within)

pub take-requires : goal.take-requires
take-requires c = count_within c.loop-rest.levels c.loop-rest.invariant.within
