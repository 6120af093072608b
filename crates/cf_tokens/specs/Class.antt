-- Classes of bytes (2.1, 2.3, 2.5).
use Rattle.std.specs.Prelude.{ℕ, List, Bool, nat_eq, nat_le, not, ◌&&◌, ◌||◌, take, drop}
use Rattle.std.specs.List.{prefix_len}
use Rattle.cf_tokens.specs.declared.class.Class.{Class}
use Rattle.cf_tokens.specs.declared.class.Class.TheVariants.{Blank, Digit, OctalDigit, HexDigit, Letter, NameByte, InLine, InQuotes}

-- whether a byte lies from `low` to `high`
abbrev pub is_within : ℕ → ℕ → ℕ → Bool
is_within low high byte = nat_le low byte && nat_le byte high

-- a space, or one of tab, newline, vertical tab, form feed and carriage return, which are 9 to 13
abbrev pub is_blank : ℕ → Bool
is_blank byte = nat_eq byte 32 || is_within 9 13 byte

abbrev pub is_digit : ℕ → Bool
is_digit byte = is_within 48 57 byte

-- `A` to `Z`, `a` to `z` and `_`
abbrev pub is_letter : ℕ → Bool
is_letter byte = is_within 65 90 byte || is_within 97 122 byte || nat_eq byte 95

-- whether a byte is of the class
abbrev pub has : Class → ℕ → Bool
has Blank byte = is_blank byte
has Digit byte = is_digit byte
has OctalDigit byte = is_within 48 55 byte
has HexDigit byte = is_digit byte || is_within 65 70 byte || is_within 97 102 byte
has Letter byte = is_letter byte
has NameByte byte = is_letter byte || is_digit byte
has InLine byte = not (nat_eq byte 10)
has InQuotes byte = not (nat_eq byte 34)

-- how many bytes of the class stand at the front
abbrev pub run : Class → List ℕ → ℕ
run class bytes = prefix_len (has class) bytes

-- these bytes
abbrev pub leading : Class → List ℕ → List ℕ
leading class bytes = take (run class bytes) bytes

-- what stands behind them
abbrev pub behind : Class → List ℕ → List ℕ
behind class bytes = drop (run class bytes) bytes
