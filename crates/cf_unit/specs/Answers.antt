-- What a list of tokens is: a file, or the first reason why not.
use Rattle.std.specs.Prelude.{◌≡◌, ℕ, true, false, List, length, Some, None}
use Rattle.cf_tokens.specs.declared.token.Token.{Token}
use Rattle.cf_unit.specs.declared.file.Unit.{Unit as File}
use Rattle.cf_unit.specs.Files.{file, SpellsFile}
use Rattle.cf_unit.specs.Nesting.{passes, unmatched}
use Rattle.cf_unit.specs.Stuck.{Stuck, Spot}

pub data Answer : Type 0 where
  -- the tree of a file
  accepted : File → Answer
  -- tokens that are not in the grammar (17), at this place
  refused : ℕ → Answer
  -- nested too deep
  too_deep : Answer

-- the limit comes first, then the first bracket without a partner, and then the grammar
pub data IsUnit (ts : List Token) : Answer → Type 0 where
  nested : passes ts ≡ true → IsUnit ts too_deep
  unpaired : (at : ℕ) → passes ts ≡ false → unmatched ts ≡ Some at → IsUnit ts (refused at)
  misspelled : (p : Spot) → passes ts ≡ false → unmatched ts ≡ None → Stuck (file (length ts)) ts p → IsUnit ts (refused p.at)
  spelled : (f : File) → passes ts ≡ false → unmatched ts ≡ None → SpellsFile ts f → IsUnit ts (accepted f)

-- tokens are one thing
abbrev pub HasOneAnswer : Type 0
HasOneAnswer = (ts : List Token) (a b : Answer) → IsUnit ts a → IsUnit ts b → a ≡ b

-- and they are some thing
abbrev pub HasAnswer : Type 0
HasAnswer = (ts : List Token) → (a : Answer) × IsUnit ts a

-- they are the file of one tree at most
abbrev pub HasOneFile : Type 0
HasOneFile = (ts : List Token) (f g : File) → SpellsFile ts f → SpellsFile ts g → f ≡ g
