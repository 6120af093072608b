-- No level counts more than the nesting.
use Rattle.std.proofs.Common.{◌≡◌, ℕ, zero, suc, ◌-◌, ◌<◌, ◌≤◌, Bool, true, false, cond, List, [], ◌∷◌, length, arith}
use Rattle.std.specs.Prelude.{get_or, nat_lt}
use Rattle.std.proofs.lemmas.Bool.Decides.{nat_tests}
use Rattle.cf_unit.specs.declared.nesting.Level.{Level}
use Rattle.cf_unit.specs.Nesting.{Levels, no_level, innermost, is_outside, count, depth_of, depth, nesting_limit}

depth-at : (ls : List Level) (i : ℕ) → (get_or ls i no_level).count ≤ depth_of ls
depth-at [] i = omega arith
depth-at (l ∷ ls) zero = omega arith
depth-at (l ∷ ls) (suc i) = let h = depth-at ls i in omega (arith, h)

pub count-within : (l : Levels) → nat_lt nesting_limit (depth l) ≡ false → count l < 4294967295
count-within l e = by_place (is_outside l)
  where
    inside : (innermost l).count ≤ depth_of l.inside
    inside = depth-at l.inside (length l.inside - 1)

    within : depth l ≤ 256
    within = grind (arith, nat_tests, e)

    by_place : (b : Bool) → cond b l.file (innermost l).count < 4294967295
    by_place true = omega (arith, within)
    by_place false = omega (arith, within, inside)
