-- A place in a list, seen from further on.
use Rattle.std.proofs.Common.{◌≡◌, ℕ, ◌-◌, List, length, slice_get}
use Rattle.cc_whole.specs.Plain.{Function}

-- the place in what is left of a list is a place in all of it
pub record SamePlace (rest : List Function) (left : ℕ) (all : List Function) (index : ℕ) : Type 0 where
  pub same : slice_get rest left ≡ slice_get all index
  pub behind : left - length rest ≡ index - length all
