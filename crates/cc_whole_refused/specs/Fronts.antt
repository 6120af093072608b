-- What stands at the front of a text behind its first line: blanks and tokens, cut as the whole text is.
use Rattle.std.specs.Prelude.{◌≡◌, ℕ, true, List, [], ◌∷◌, ◌++◌}
use Rattle.cc_whole_tokens.specs.declared.token.Token.{Token}
use Rattle.cc_whole_tokens.specs.declared.token.Token.TheVariants.{Text}
use Rattle.cc_whole_tokens.specs.Token.{spelling, is_token, ends}
use Rattle.cc_whole_tokens.specs.Cut.{is_blank, Spelled}

-- a token begins here, and ends where the bytes behind it end it
pub data Begins : List ℕ → Token → Type 0 where
  token : (t : Token) (bs : List ℕ) → is_token t ≡ true → ends t bs ≡ true → Begins (spelling t ++ bs) t
  string : (inside bytes bs : List ℕ) → Spelled inside bytes → Begins (34 ∷ (inside ++ (34 ∷ bs))) (Text bytes)

-- some blanks and these tokens stand at the front of the bytes, and then the rest
pub data Fronts : List ℕ → List Token → List ℕ → Type 0 where
  here : (rest : List ℕ) → Fronts rest [] rest
  blank : (b : ℕ) (bs : List ℕ) (ts : List Token) (rest : List ℕ) → is_blank b ≡ true → Fronts bs ts rest → Fronts (b ∷ bs) ts rest
  token : (t : Token) (bs : List ℕ) (ts : List Token) (rest : List ℕ) → is_token t ≡ true → ends t bs ≡ true → Fronts bs ts rest
      → Fronts (spelling t ++ bs) (t ∷ ts) rest
  string : (inside bytes : List ℕ) (bs : List ℕ) (ts : List Token) (rest : List ℕ) → Spelled inside bytes → Fronts bs ts rest
      → Fronts (34 ∷ (inside ++ (34 ∷ bs))) (Text bytes ∷ ts) rest
