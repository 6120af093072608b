-- What reading the items of tokens answers.
use Rattle.std.specs.Prelude.{◌≡◌, ℕ, true, false, List, [], ◌∷◌, ◌++◌, length, Result, Ok, Err}
use Rattle.cc_whole_tokens.specs.declared.token.Token.{Token}
use Rattle.cc_whole.specs.declared.unit.CItem.{CItem}
use Rattle.cc_whole.specs.Plain.{items_of}
use Rattle.cc_whole.specs.SpellsItems.{SpellsItems}
use Rattle.cc_whole_fitting.specs.Fitting.{fitting_items}
use Rattle.cc_whole_refused.specs.NotC.{GoesOn}
use Rattle.cc_whole_read_items.specs.declared.tokens.ItemsErr.{ItemsErr}
use Rattle.cc_whole_read_items.specs.declared.tokens.ItemsErr.TheVariants as error

-- Behind tokens that begin a unit these are not C: no unit has the next one there, or the tokens end and spell none.
pub data StopsAt (before : List Token) : List Token → Type 0 where
  next : (t : Token) (ts : List Token) → (GoesOn (before ++ t ∷ []) → ⊥) → StopsAt before (t ∷ ts)
  ended : ((items : List CItem) → SpellsItems items before → ⊥) → StopsAt before []

-- The tokens are not C at this place: those before begin a unit, and none goes on.
pub record NotCAt (tokens : List Token) (at : ℕ) : Type 0 where
  pub before : List Token
  pub rest : List Token
  pub parts : tokens ≡ before ++ rest
  pub place : at ≡ length before
  pub goes : GoesOn before
  pub stops : StopsAt before rest

-- they spell some items
pub record AreItems (tokens : List Token) : Type 0 where
  pub items : List CItem
  pub spelled : SpellsItems items tokens

-- they spell these items, whose constants fit 32 bits
pub record AreThese (tokens : List Token) (items : List CItem) : Type 0 where
  pub spelled : SpellsItems items tokens
  pub fit : fitting_items (items_of items) ≡ true

-- they spell some items, and a constant of these does not fit 32 bits
pub record AreWide (tokens : List Token) : Type 0 where
  pub items : List CItem
  pub spelled : SpellsItems items tokens
  pub wide : fitting_items (items_of items) ≡ false

-- The items are those of the tokens, and their constants fit. `Wide` says that there are some, and that a constant of them does not fit 32 bits. Nothing is
-- said where memory fails.
abbrev pub Answers : List Token → Result (List CItem) ItemsErr → Type 0
Answers tokens (Ok items) = AreThese tokens items
Answers tokens (Err (error.NotC at)) = NotCAt tokens at
Answers tokens (Err error.Wide) = AreWide tokens
Answers tokens (Err error.Memory) = Unit {0}
