-- The texts of a unit: its first line gives the version, and the tokens behind it spell its items. A unit has many texts.
use Rattle.std.specs.Prelude.{◌≡◌, ℕ, ◌<◌, ◌≤◌, ◌^◌, List, [], ◌∷◌, ◌++◌, codes, decimal, length, All, IsTrue, ◌==◌}
use Rattle.cc_whole_tokens.specs.declared.token.Token.{Token}
use Rattle.cc_whole_tokens.specs.Cut.{Cut, is_blank}
use Rattle.cc_whole.specs.declared.unit.CUnit.{CUnit}
use Rattle.cc_whole.specs.SpellsItems.{SpellsItems}

-- `#pragma cfront`, blanks, a number of 1 to 9 digits without a leading 0, spaces, a newline; blanks may stand before it
pub record FirstLine (version : ℕ) (line : List ℕ) : Type 0 where
  pub before : List ℕ
  pub gap : List ℕ
  pub spaces : List ℕ
  pub blank_before : All (λ b. IsTrue (is_blank b)) before
  pub blank_gap : All (λ b. IsTrue (is_blank b)) gap
  pub a_gap : 0 < length gap
  pub all_spaces : All (λ b. IsTrue (b == 32)) spaces
  pub from_one : 1 ≤ version
  pub nine_digits : version < 10 ^ 9
  pub line_is : line ≡ before ++ (codes "#pragma cfront" ++ (gap ++ (decimal version ++ (spaces ++ (10 ∷ [])))))

pub record Text (text : List ℕ) (unit : CUnit) : Type 0 where
  pub line : List ℕ
  pub rest : List ℕ
  pub tokens : List Token
  pub first : FirstLine unit.version line
  pub cut : Cut rest tokens
  pub spelled : SpellsItems unit.items tokens
  pub parts : text ≡ line ++ rest
