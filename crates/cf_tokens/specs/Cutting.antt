-- How `tokens` goes over a text; no public clause cites this.
use Rattle.std.specs.Prelude.{◌≡◌, ℕ, ◌+◌, ◌<◌, ◌≤◌, List, length, drop, Ok, Err}
use Rattle.std.specs.List.{All}
use Rattle.cf_tokens.specs.Front.{front}
use Rattle.cf_tokens.specs.Lex.{Cut, IsInside, add, joined, starts_line, token_at}
use Rattle.cf_tokens.specs.declared.fault.LexFault.{LexFault}
use Rattle.cf_tokens.specs.declared.fault.LexFault.TheVariants as fault
use Rattle.cf_tokens.specs.declared.piece.Piece.TheVariants.{Gap, Whole}
use Rattle.cf_tokens.specs.declared.token.Token.{Token}
use Rattle.cf_tokens.specs.declared.token.Word.{Word}

-- one piece further, with its token behind those that were found
pub data Goes (text : List ℕ) (at : ℕ) (found : List Token) : ℕ → List Token → Type 0 where
  over_gap : (n : ℕ) → front (starts_line text at) (drop at text) ≡ Gap n → Goes text at found (at + n) found
  over_token : (n : ℕ) (word : Word) → front (starts_line text at) (drop at text) ≡ Whole word n
      → Goes text at found (at + n) (add found (token_at word at n))

pub record Steps (text : List ℕ) (at : ℕ) (old new : List Token) (next : ℕ) : Type 0 where
  pub goes : Goes text at old next new
  pub forward : at < next
  pub within : next ≤ length text

-- why there is no piece at a place
abbrev pub Stops : List ℕ → ℕ → LexFault → Type 0
Stops text at fault.Memory = Unit {0}
Stops text at (fault.Broken first) = Cut text at (Err first)
Stops text at (fault.Limit limit) = ⊥

-- the tokens of the whole text
pub record CutsTo (text : List ℕ) (found : List Token) : Type 0 where
  pub tokens : List Token
  pub cut : Cut text 0 (Ok tokens)
  pub is : found ≡ joined tokens
  pub inside : All (IsInside text) found
