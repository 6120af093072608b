-- Bytes that are a text of a tree: they are cut into tokens, and the tokens spell it.
use Rattle.std.proofs.Common.{◌≡◌, ℕ, List}
use Rattle.cc_whole_tokens.specs.declared.token.Token.{Token}
use Rattle.cc_whole_printed.proofs.Cuts.{Cuts}

-- the bytes are cut into tokens that are spelled so
pub record TextOf (Spells : List Token → Type 0) (bytes : List ℕ) : Type 0 where
  pub tokens : List Token
  pub cut : Cuts bytes tokens
  pub spells : Spells tokens

-- the same of equal bytes
pub text_of_same : {Spells : List Token → Type 0} (bs cs : List ℕ) → bs ≡ cs → TextOf Spells cs → TextOf Spells bs
text_of_same {Spells = Spells} bs cs e w = rw e w
