-- The value of digits grows with each digit.
use Rattle.std.proofs.Common.{◌≡◌, ℕ, ◌+◌, ◌*◌, ◌≤◌, ◌<◌, List, [], ◌∷◌, None, false, refl, arith}
use Rattle.std.specs.Prelude.{nat_lt}
use Rattle.std.proofs.lemmas.Bool.Decides.{nat_tests}
use Rattle.std.specs.Char.{digit_value}
use Rattle.std.specs.Str.Parse.{digits_value, digits_value_after}
use Rattle.cc_whole_first_line.specs.FirstLine.{as_version}

value_grows : (n : ℕ) (ds : List ℕ) → n ≤ digits_value_after 10 n ds
value_grows n [] = omega arith
value_grows n (c ∷ cs) = let more = value_grows (n * 10 + digit_value c) cs in omega arith

pub too_large : (n : ℕ) (ds all : List ℕ) → 1000000000 ≤ n → digits_value_after 10 n ds ≡ digits_value 10 all → None ≡ as_version (digits_value 10 all)
too_large n ds all large e =
    let more = value_grows n ds in
    let above : 1000000000 ≤ digits_value 10 all = omega arith in
    let no_version : nat_lt (digits_value 10 all) 1000000000 ≡ false = grind (arith, nat_tests) in
    rw no_version refl
