-- The token at the front of a text that does not begin with a blank, and its length in bytes.
use Rattle.std.specs.Prelude.{ℕ, ◌+◌, ◌==◌, if◌then◌else◌, List, [], length, take, drop, Option, Some, None}
use Rattle.cc_whole_tokens.specs.declared.token.Token.{Token}
use Rattle.cc_whole_tokens.specs.declared.token.Token.TheVariants as token
use Rattle.cc_whole_tokens.specs.Token.{begins}
use Rattle.cc_whole_cut.specs.declared.front.Shape.{Shape}
use Rattle.cc_whole_cut.specs.Front.{front, token_of}
use Rattle.cc_whole_cut.specs.Inside.{inside}

-- a string has two quotes
abbrev pub string : Option (List ℕ × ℕ) → Option (Token × ℕ)
string (Some q) = Some (token.Text q.0, q.1 + 2)
string None = None

abbrev pub shaped : Option (Shape × ℕ) → List ℕ → Option (Token × ℕ)
shaped (Some q) bs = Some (token_of q.0 (take q.1 bs), q.1)
shaped None bs = None

unfoldable pub first : List ℕ → Option (Token × ℕ)
first bs = if begins (λ b. b == 34) bs then string (inside (length (drop 1 bs)) [] 0 (drop 1 bs)) else shaped (front bs) bs
