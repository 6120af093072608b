-- Reading the first line of a text: blanks, `#pragma cfront`, blanks, a version, spaces, a newline. What is found is the version and what stands
-- behind the line; or the text stops having a first line at the first of these parts that does not stand there, with what is left of it.
use Rattle.std.specs.Prelude.{◌≡◌, ℕ, Bool, not, ◌&&◌, ◌==◌, nat_eq, nat_lt, if◌then◌else◌, List, [], ◌∷◌, ◌++◌, take, drop, Option, Some, None, Result, Ok, Err, codes}
use Rattle.std.specs.Borrow.{Bor}
use Rattle.std.specs.Char.{is_ascii_digit}
use Rattle.std.specs.List.{prefix_len, starts_with}
use Rattle.std.specs.Str.Parse.{digits_value}
use Rattle.cc_whole_tokens.specs.Token.{begins, is_word_byte}
use Rattle.cc_whole_tokens.specs.Cut.{is_blank}
use Rattle.cc_whole.specs.Text.{FirstLine}

abbrev pub is_space : ℕ → Bool
is_space b = b == 32

-- the bytes behind those that pass the test
abbrev pub without : (ℕ → Bool) → List ℕ → List ℕ
without p bs = drop (prefix_len p bs) bs

-- a number below 10 ^ 9
abbrev pub as_version : ℕ → Option ℕ
as_version n = if nat_lt n 1000000000 then Some n else None

-- the version that digits write; none begins with 0
abbrev pub version_of : List ℕ → Option ℕ
version_of ds = if begins is_ascii_digit ds && not (begins (λ b. b == 48) ds) then as_version (digits_value 10 ds) else None

-- a newline ends the line
unfoldable pub from_end : ℕ → List ℕ → Result (ℕ × List ℕ) (List ℕ)
from_end version [] = Err []
from_end version (b ∷ bs) = if b == 10 then Ok (version, bs) else Err (b ∷ bs)

-- the version that these first bytes write, where no letter follows
unfoldable pub number_in : ℕ → List ℕ → Option ℕ
number_in n bs = if begins is_word_byte (drop n bs) then None else version_of (take n bs)

abbrev pub behind_number : Option ℕ → ℕ → List ℕ → Result (ℕ × List ℕ) (List ℕ)
behind_number None n bs = Err bs
behind_number (Some version) n bs = from_end version (without is_space (drop n bs))

unfoldable pub from_number : List ℕ → Result (ℕ × List ℕ) (List ℕ)
from_number bs = behind_number (number_in (prefix_len is_ascii_digit bs) bs) (prefix_len is_ascii_digit bs) bs

abbrev pub begins_words : List ℕ → Bool
begins_words bs = starts_with nat_eq bs (codes "#pragma cfront") && not (begins is_word_byte (drop 14 bs))

unfoldable pub from_words : List ℕ → Result (ℕ × List ℕ) (List ℕ)
from_words bs = if begins_words bs then from_number (without is_blank (drop 14 bs)) else Err bs

unfoldable pub first_line : List ℕ → Result (ℕ × List ℕ) (List ℕ)
first_line bs = from_words (without is_blank bs)

-- a text begins with a first line of this version, and then the rest
pub record Begins (text : List ℕ) (version : ℕ) (rest : List ℕ) : Type 0 where
  pub line : List ℕ
  pub first : FirstLine version line
  pub parts : text ≡ line ++ rest

-- what code found in a text, as lists
abbrev pub found_in : Result (ℕ × Bor (List ℕ)) (Bor (List ℕ)) → Result (ℕ × List ℕ) (List ℕ)
found_in (Ok p) = Ok (p.0, p.1.now)
found_in (Err left) = Err left.now
