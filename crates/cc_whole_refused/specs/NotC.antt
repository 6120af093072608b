-- Where a text stops being C: at the first token that no text with the same tokens before it has, at a byte at which no token begins, or at its end.
use Rattle.std.specs.Prelude.{◌≡◌, ℕ, ◌+◌, false, List, [], ◌∷◌, ◌++◌, length}
use Rattle.cc_whole_tokens.specs.declared.token.Token.{Token}
use Rattle.cc_whole_tokens.specs.Cut.{is_blank}
use Rattle.cc_whole.specs.declared.unit.CItem.{CItem}
use Rattle.cc_whole.specs.SpellsItems.{SpellsItems}
use Rattle.cc_whole.specs.Text.{FirstLine}
use Rattle.cc_whole_refused.specs.Fronts.{Begins, Fronts}

-- these tokens are the first ones of some items
pub record GoesOn (tokens : List Token) : Type 0 where
  pub items : List CItem
  pub more : List Token
  pub spelled : SpellsItems items (tokens ++ more)

-- Behind such tokens these bytes are not C: no items have the next token there, no token begins at the next byte, or the text ends and is none of theirs.
pub data Stops (tokens : List Token) : List ℕ → Type 0 where
  token : (bs : List ℕ) (t : Token) → Begins bs t → (GoesOn (tokens ++ t ∷ []) → ⊥) → Stops tokens bs
  stray : (b : ℕ) (bs : List ℕ) → is_blank b ≡ false → ((t : Token) → Begins (b ∷ bs) t → ⊥) → Stops tokens (b ∷ bs)
  ended : ((items : List CItem) → SpellsItems items tokens → ⊥) → Stops tokens []

-- The text has its first line, and stops being C at this byte.
pub record NotC (text : List ℕ) (at : ℕ) : Type 0 where
  pub version : ℕ
  pub line : List ℕ
  pub body : List ℕ
  pub tokens : List Token
  pub rest : List ℕ
  pub first : FirstLine version line
  pub parts : text ≡ line ++ body
  pub fronts : Fronts body tokens rest
  pub goes : GoesOn tokens
  pub stops : Stops tokens rest
  pub place : at + length rest ≡ length text
