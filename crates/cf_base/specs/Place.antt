-- Where a byte place of a text is for one who reads it.
use Rattle.std.specs.Prelude.{ℕ, ◌+◌, ◌==◌, List, take, count_by, not}
use Rattle.std.specs.List.{suffix_len}

abbrev pub newline : ℕ
newline = 10

-- one more than the newlines before the place
abbrev pub line : List ℕ → ℕ → ℕ
line text at = 1 + count_by (λ byte. byte == newline) (take at text)

-- one more than the bytes before the place since the last newline
abbrev pub column : List ℕ → ℕ → ℕ
column text at = 1 + suffix_len (λ byte. not (byte == newline)) (take at text)
