-- What holds of the lexical definition as a whole.
use Rattle.std.specs.Prelude.{◌≡◌, ℕ, ◌<◌, ◌≤◌, List, take, length, Bool, Result}
use Rattle.cf_tokens.specs.Front.{front}
use Rattle.cf_tokens.specs.Lex.{Lex}
use Rattle.cf_tokens.specs.declared.fault.LexFault.{LexFault}
use Rattle.cf_tokens.specs.declared.piece.Piece.TheVariants.{Whole}
use Rattle.cf_tokens.specs.declared.token.Token.{Token}
use Rattle.cf_tokens.specs.declared.token.Word.{Word}

-- A text has one answer: one list of tokens, or one fault with one place.
abbrev pub HasOneAnswer : Type 0
HasOneAnswer = (text : List ℕ) (a b : Result (List Token) LexFault) → Lex text a → Lex text b → a ≡ b

-- No token could have been longer: where a token of n bytes, one at least, stands at the front of a text, no m bytes of the text,
-- more than n, are a token.
abbrev pub AreLongest : Type 0
AreLongest = (starts_line : Bool) (text : List ℕ) (word longer : Word) (n m : ℕ) → front starts_line text ≡ Whole word n
    → 1 ≤ n → n < m → m ≤ length text → front starts_line (take m text) ≡ Whole longer m → ⊥
