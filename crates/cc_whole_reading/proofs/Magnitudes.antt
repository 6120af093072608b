-- The value of digits grows with each digit.
use Rattle.std.proofs.Common.{◌≡◌, ℕ, ◌+◌, ◌*◌, ◌≤◌, ◌<◌, nat_le, List, [], ◌∷◌, None, false, refl, arith}
use Rattle.std.proofs.lemmas.Bool.Decides.{nat_tests}
use Rattle.std.specs.Char.{digit_value}
use Rattle.std.specs.Str.Parse.{digits_value, digits_value_after}
use Rattle.cc_whole_reading.specs.Magnitude.{up_to_most}

value_grows : (n : ℕ) (ds : List ℕ) → n ≤ digits_value_after 10 n ds
value_grows n [] = omega arith
value_grows n (c ∷ cs) = let more = value_grows (n * 10 + digit_value c) cs in omega arith

pub beyond_most : (n : ℕ) (ds all : List ℕ) → 4294967295 < n → digits_value_after 10 n ds ≡ digits_value 10 all → None ≡ up_to_most (digits_value 10 all)
beyond_most n ds all large e =
    let more = value_grows n ds in
    let above : 4294967295 < digits_value 10 all = omega arith in
    let no : nat_le (digits_value 10 all) 4294967295 ≡ false = grind (arith, nat_tests) in
    rw no refl
