-- The number that digits are grows with each digit.
use Rattle.std.proofs.Common.{◌≡◌, ℕ, ◌+◌, ◌*◌, ◌<◌, ◌≤◌, List, [], ◌∷◌, length, drop, get_or, Bool, true, false, refl, lt-ltb, None, Some, arith, nat_eq, nat_lt, drop-cons, add-one, if◌then◌else◌, ◌||◌}
use Rattle.std.proofs.Math.Nat.{le-mul_of_pos_right}
use Rattle.cf_tokens.specs.Number.{number, number_within, digit_value}

value_grows : (radix value digit : ℕ) → 1 ≤ radix → value ≤ value * radix + digit
value_grows radix value digit some = omega (arith, le-mul_of_pos_right value some)

pub number_grows : (radix value : ℕ) (digits : List ℕ) → 1 ≤ radix → value ≤ number radix value digits
number_grows radix value [] some = omega arith
number_grows radix value (digit ∷ digits) some =
    let here = value_grows radix value (digit_value digit) some in
    let behind = number_grows radix (value * radix + digit_value digit) digits some in
    omega (arith, here, behind)

over_case : (is_empty : Bool) (most radix : ℕ) (digits : List ℕ) → most < number radix 0 digits
    → None ≡ (if is_empty || nat_lt most (number radix 0 digits) then None else Some (number radix 0 digits))
over_case true most radix digits over = refl
over_case false most radix digits over = rw (lt-ltb most (number radix 0 digits) over) refl

over_most : (most radix : ℕ) (digits : List ℕ) → most < number radix 0 digits → None ≡ number_within most radix digits
unfolding number_within
over_most most radix digits over = over_case (nat_eq (length digits) 0) most radix digits over

pub too_large : (most radix value i : ℕ) (digits : List ℕ) → 1 ≤ radix → i < length digits
    → number radix value (drop i digits) ≡ number radix 0 digits
    → most < value * radix + digit_value (get_or digits i 0) → None ≡ number_within most radix digits
too_large most radix value i digits some within so_far over =
    let next : number radix value (drop i digits) ≡ number radix (value * radix + digit_value (get_or digits i 0)) (drop (i + 1) digits)
    = rw (add-one, drop-cons digits i 0) refl in
    let grows = number_grows radix (value * radix + digit_value (get_or digits i 0)) (drop (i + 1) digits) some in
    over_most most radix digits (omega (arith, next, so_far, grows, over))
