-- The tokens of a text, or the first rule that it breaks (2.1).
use Rattle.std.specs.Prelude.{◌≡◌, ℕ, ◌+◌, ◌-◌, ◌<◌, ◌≤◌, List, [], ◌∷◌, ◌++◌, length, drop, get_or, Bool, nat_eq, ◌||◌, Option, Some, None, Result, Ok, Err}
use Rattle.std.specs.List.{fold}
use Rattle.cf_base.specs.declared.limit.Bound.TheVariants as bound
use Rattle.cf_base.specs.declared.rule.Broken.{Broken}
use Rattle.cf_tokens.specs.Front.{front}
use Rattle.cf_tokens.specs.declared.fault.LexFault.{LexFault}
use Rattle.cf_tokens.specs.declared.fault.LexFault.TheVariants as fault
use Rattle.cf_tokens.specs.declared.piece.Piece.TheVariants.{Gap, Whole, Flaw}
use Rattle.cf_tokens.specs.declared.token.Token.{Token}
use Rattle.cf_tokens.specs.declared.token.Word.{Word}
use Rattle.cf_tokens.specs.declared.token.Word.TheVariants as word

-- whether the byte at a place is the first of its line
abbrev pub starts_line : List ℕ → ℕ → Bool
starts_line text at = nat_eq at 0 || nat_eq (get_or text (at - 1) 0) 10

abbrev pub token_at : Word → ℕ → ℕ → Token
token_at word at n = record { word = word; at = at; len = n }

-- a token before the tokens of the rest, if the rest has them
abbrev pub put_before : Token → Result (List Token) Broken → Result (List Token) Broken
put_before token (Ok tokens) = Ok (token ∷ tokens)
put_before token (Err broken) = Err broken

-- From a place on, gaps and tokens cut the text exactly, up to its end or up to the first place where no piece stands.
pub data Cut (text : List ℕ) : ℕ → Result (List Token) Broken → Type 0 where
  at_end : (at : ℕ) → at ≡ length text → Cut text at (Ok [])
  at_gap : (at n : ℕ) (rest : Result (List Token) Broken) → at < length text
      → front (starts_line text at) (drop at text) ≡ Gap n → Cut text (at + n) rest → Cut text at rest
  at_token : (at n : ℕ) (word : Word) (rest : Result (List Token) Broken) → at < length text
      → front (starts_line text at) (drop at text) ≡ Whole word n → Cut text (at + n) rest → Cut text at (put_before (token_at word at n) rest)
  at_flaw : (at rule : ℕ) → at < length text
      → front (starts_line text at) (drop at text) ≡ Flaw rule → Cut text at (Err (record { rule = rule; at = at }))

-- the bytes of a string literal
abbrev pub literal_of : Word → Option (List ℕ)
literal_of (word.Text bytes) = Some bytes
literal_of (word.Ident name) = None
literal_of (word.Keyword number) = None
literal_of (word.Int value kind) = None
literal_of (word.Char value) = None
literal_of (word.Sign number) = None

abbrev pub beside_as : Token → Token → Option (List ℕ) → Option (List ℕ) → List Token
beside_as last next (Some xs) (Some ys) =
    record { word = word.Text (xs ++ ys); at = last.at; len = next.at + next.len - last.at } ∷ []
beside_as last next (Some xs) None = last ∷ next ∷ []
beside_as last next None ys = last ∷ next ∷ []

-- two tokens with nothing but gaps between them; string literals are one, from the first byte of the one to the last of the other
abbrev pub beside : Token → Token → List Token
beside last next = beside_as last next (literal_of last.word) (literal_of next.word)

abbrev pub add_behind : Token → Token → List Token → List Token
add_behind next last [] = beside last next
add_behind next first (second ∷ more) = first ∷ add_behind next second more

-- a token behind others
abbrev pub add : List Token → Token → List Token
add [] next = next ∷ []
add (token ∷ tokens) next = add_behind next token tokens

-- tokens in order, with neighbouring string literals joined (2.5.4)
abbrev pub joined : List Token → List Token
joined tokens = fold add [] tokens

-- a token doesn't go past the end of the text
abbrev pub IsInside : List ℕ → Token → Type 0
IsInside text token = token.at + token.len ≤ length text

abbrev pub most_bytes : ℕ
most_bytes = 1048576

abbrev pub most_tokens : ℕ
most_tokens = 200000

-- The answer for a text: the limit of bytes comes first, then the first broken rule, then the limit of tokens.
pub data Lex (text : List ℕ) : Result (List Token) LexFault → Type 0 where
  too_long : most_bytes < length text → Lex text (Err (fault.Limit (record { bound = bound.Bytes; most = most_bytes })))
  broken : (first : Broken) → length text ≤ most_bytes → Cut text 0 (Err first) → Lex text (Err (fault.Broken first))
  too_many : (tokens : List Token) → length text ≤ most_bytes → Cut text 0 (Ok tokens) → most_tokens < length (joined tokens)
      → Lex text (Err (fault.Limit (record { bound = bound.Tokens; most = most_tokens })))
  listed : (tokens : List Token) → length text ≤ most_bytes → Cut text 0 (Ok tokens) → length (joined tokens) ≤ most_tokens
      → Lex text (Ok (joined tokens))

-- what a fault says of a text; want of memory says nothing
abbrev pub IsFault : List ℕ → LexFault → Type 0
IsFault text fault.Memory = Unit {0}
IsFault text (fault.Broken first) = Lex text (Err (fault.Broken first))
IsFault text (fault.Limit limit) = Lex text (Err (fault.Limit limit))
