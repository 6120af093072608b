-- The tokens at the front of some bytes, and the places at which they begin.
use Rattle.std.specs.Prelude.{◌≡◌, ℕ, ◌+◌, Bool, true, false, List, [], ◌∷◌, ◌++◌, length}
use Rattle.cc_whole_tokens.specs.declared.token.Token.{Token}
use Rattle.cc_whole_tokens.specs.declared.token.Token.TheVariants.{Text}
use Rattle.cc_whole_tokens.specs.Token.{spelling, is_token, ends}
use Rattle.cc_whole_tokens.specs.Cut.{is_blank, Spelled}
use Rattle.cc_whole_refused.specs.Fronts.{Begins}
use Rattle.cc_whole_front.specs.declared.front.Front.{Front}

-- Blanks and these tokens stand at the front of the bytes, and then the rest. In a text of `n` bytes, whose end the bytes are, each token
-- begins at its place.
pub data Placed (n : ℕ) : List ℕ → List Token → List ℕ → List ℕ → Type 0 where
  here : (rest : List ℕ) → Placed n rest [] [] rest
  blank : (b : ℕ) (bs : List ℕ) (ts : List Token) (ps rest : List ℕ) → is_blank b ≡ true → Placed n bs ts ps rest → Placed n (b ∷ bs) ts ps rest
  token : (t : Token) (at : ℕ) (bs : List ℕ) (ts : List Token) (ps rest : List ℕ) → is_token t ≡ true → ends t bs ≡ true
      → at + length (spelling t ++ bs) ≡ n → Placed n bs ts ps rest → Placed n (spelling t ++ bs) (t ∷ ts) (at ∷ ps) rest
  string : (inside bytes : List ℕ) (at : ℕ) (bs : List ℕ) (ts : List Token) (ps rest : List ℕ) → Spelled inside bytes
      → at + length (34 ∷ (inside ++ (34 ∷ bs))) ≡ n → Placed n bs ts ps rest → Placed n (34 ∷ (inside ++ (34 ∷ bs))) (Text bytes ∷ ts) (at ∷ ps) rest

-- the bytes end, or no blank stands here and no token begins
pub data NoToken : List ℕ → Type 0 where
  ended : NoToken []
  stray : (b : ℕ) (bs : List ℕ) → is_blank b ≡ false → ((t : Token) → Begins (b ∷ bs) t → ⊥) → NoToken (b ∷ bs)

abbrev pub is_empty : List ℕ → Bool
is_empty [] = true
is_empty (b ∷ bs) = false

-- these bytes end a text, behind so many others, and these are their tokens up to a place where no token begins
pub record IsFront (before : ℕ) (bytes : List ℕ) (front : Front) : Type 0 where
  pub rest : List ℕ
  pub placed : Placed (before + length bytes) bytes front.tokens.items front.places.items rest
  pub place : front.end + length rest ≡ before + length bytes
  pub stops : NoToken rest
  pub whole : front.is_whole ≡ is_empty rest
