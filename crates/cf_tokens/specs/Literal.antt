-- String literals (2.5.4).
use Rattle.std.specs.Prelude.{ℕ, zero, suc, ◌+◌, List, [], ◌∷◌, drop, length, get_or, nat_eq, if◌then◌else◌, Option, Some, None}
use Rattle.cf_tokens.specs.Chain.{◌>>=◌}
use Rattle.cf_tokens.specs.Character.{unit_at}
use Rattle.cf_tokens.specs.declared.token.Word.TheVariants as word
use Rattle.cf_tokens.specs.declared.piece.Piece.{Piece}
use Rattle.cf_tokens.specs.declared.piece.Piece.TheVariants.{Whole, Flaw}

-- a character before others
abbrev pub before : ℕ × ℕ → Option (List ℕ × ℕ) → Option (List ℕ × ℕ)
before unit (Some (values, n)) = Some (unit.0 ∷ values, unit.1 + n)
before unit None = None

-- the values of the characters up to the first `"` that no escape holds, and how many bytes spell them, that `"` too;
-- there are at most `most` of them
abbrev pub characters : ℕ → List ℕ → Option (List ℕ × ℕ)
characters zero bytes = None
characters (suc most) bytes =
    if nat_eq (get_or bytes 0 0) 34 then Some ([], 1)
    else unit_at bytes >>= λ unit. before unit (characters most (drop unit.1 bytes))

abbrev pub ended : Option (List ℕ × ℕ) → Piece
ended (Some (values, n)) = Whole (word.Text values) (n + 1)
ended None = Flaw 5

-- `"` begins a literal, which has to end with a `"` in its line (K5)
unfoldable pub literal : List ℕ → Piece
literal text = ended (characters (length (drop 1 text)) (drop 1 text))
