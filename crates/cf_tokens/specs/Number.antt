-- Numbers by their digits (2.5.1, 2.5.2).
use Rattle.std.specs.Prelude.{ℕ, ◌+◌, ◌-◌, ◌*◌, List, [], ◌∷◌, length, nat_eq, nat_lt, if◌then◌else◌, ◌||◌, Option, Some, None}
use Rattle.cf_tokens.specs.Class.{is_digit, is_within}

-- the value of a hexadecimal digit, and so of each other
abbrev pub digit_value : ℕ → ℕ
digit_value byte =
    if is_digit byte then byte - 48 else if is_within 65 70 byte then byte - 55 else if is_within 97 102 byte then byte - 87 else 0

-- the number that digits are behind those of `value`
abbrev pub number : ℕ → ℕ → List ℕ → ℕ
number radix value [] = value
number radix value (digit ∷ digits) = number radix (value * radix + digit_value digit) digits

-- the number that digits are, where there are digits and it is not over `most`
unfoldable pub number_within : ℕ → ℕ → List ℕ → Option ℕ
number_within most radix digits =
    if nat_eq (length digits) 0 || nat_lt most (number radix 0 digits) then None else Some (number radix 0 digits)
