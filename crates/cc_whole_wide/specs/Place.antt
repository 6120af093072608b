-- What the first fault of others tells of the first fault of some items, in whose places they stand.
use Rattle.std.specs.Prelude.{◌≡◌, ℕ, nat_le, true, if◌then◌else◌, List, Some, Err}
use Rattle.cc_whole_tokens.specs.declared.token.Token.{Token}
use Rattle.cc_whole.specs.declared.unit.CItem.{CItem}
use Rattle.cc_whole.specs.Fault.{Fault, Checks}
use Rattle.cc_whole.specs.Plain.{items_of}
use Rattle.cc_whole.specs.SpellsItems.{SpellsItems}
use Rattle.cc_whole.specs.Valid.{first_fault}
use Rattle.cc_whole_fitting.specs.Numbers.{numbers_fit}
use Rattle.cc_whole_wide.specs.Others.{first_wide, others}

-- up to the first constant that does not fit it is the fault itself, and else V11 at that constant
abbrev pub decoded : ℕ → Fault → Fault
decoded w f = if nat_le f.place w then f else record { rule = 11; place = w }

-- the others have a fault, which tells that of the items
pub record Tells (w : ℕ) (items others : Checks) : Type 0 where
  pub fault : Fault
  pub there : others ≡ Err fault
  pub here : items ≡ Err (decoded w fault)

-- others that stand in the place of the items of these tokens, and fit
pub record InPlace (tokens : List Token) (items : List CItem) : Type 0 where
  pub other : List CItem
  pub spelled : SpellsItems other (others tokens)
  pub fit : numbers_fit (others tokens) ≡ true
  pub tells : (w : ℕ) → first_wide tokens ≡ Some w → Tells w (first_fault (items_of items)) (first_fault (items_of other))
